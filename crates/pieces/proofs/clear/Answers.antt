use Rattle.std.proofs.Common.{◌≡◌, ◌++◌, ◌*◌, drop, replicate, ap, ◌∙◌, arith}
use Rattle.std.proofs.lemmas.List.{length-append, length-replicate, length-take-le}
use Rattle.pieces.specs.Store.{cleared_words}
use Rattle.pieces.proofs.Cleared.{cleared_is, cleared_table, cleared_text, cleared_marked}
use Rattle.pieces.proofs.clear.Goals as goal

pub returns : goal.returns
returns c =
    let p = c.args.p.now in
    let s = c.args.s in
    let x : c.fill.new.self ≡ replicate (4096 * s) 0 =
    c.fill.ensures.after (λ y e. e) ∙ ap (λ n. replicate n 0) (length-take-le (4096 * s) c.args.c.now c.requires.cells) in
    let y : c.fill-2.new.self ++ drop 10240 p ≡ replicate 10240 0 ++ drop 10240 p =
    ap (λ w. w ++ drop 10240 p) (c.fill-2.ensures.after (λ y e. e) ∙ ap (λ n. replicate n 0) (length-take-le 10240 p c.requires.words)) in
    let z = ap (λ w. w ++ drop (4096 * s) c.args.c.now) x in
    let e : c.enumerate.new.w ≡ cleared_words p s = cleared_is p _ c.enumerate.new.w s c.requires.most y c.enumerate.ensures in
    record {
      cells = z;
      words = e;
      store = record {
        room = rw z (simp (length-append, length-replicate) (omega arith));
        table = rw e (cleared_table p s c.requires.most c.requires.words c.requires.some);
        marked = rw e (cleared_marked p s c.requires.most c.requires.words _);
      };
      empty = rw e (cleared_text p s c.requires.most c.requires.words _);
    }

use Rattle.std.proofs.Common.{◌≡◌, ◌+◌, ◌≤◌, length, get_or, take, drop, sym, subst, List, ℕ, arith}
use Rattle.std.proofs.lemmas.List.{length-drop, length-take-le}
use Rattle.session.specs.Memory.{paper_of}
use Rattle.session.proofs.Reversing.{put_allowed}
use Rattle.session.proofs.desk.Desk.put_again.Goals as goal

pub letters_at-letters-requires : goal.letters_at-letters-requires
letters_at-letters-requires c =
    let h = c.args.head in
    let us = c.args.self.now.undo.now in
    let ls : List ℕ = take c.args.n (drop c.args.from us) in
    let ok = put_allowed c.args.self.now.cells.now c.args.self.now.pieces.now h.who h.place h.style ls c.requires.allowed in
    let a = length-drop c.args.from us in
    let long : length ls ≡ c.args.n = length-take-le c.args.n (drop c.args.from us) (omega (arith, c.requires.inside)) in
    record { inside = c.requires.inside; few = omega (arith, long, ok.1); good = ok.2 }

pub write_put-requires : goal.write_put-requires
write_put-requires c =
    let h = c.args.head in
    let ps = c.args.self.now.pieces.now in
    let ls : List ℕ = take c.args.n (drop c.args.from c.args.self.now.undo.now) in
    let ok = put_allowed c.args.self.now.cells.now ps h.who h.place h.style ls c.requires.allowed in
    let is : take c.args.n c.letters_at-letters.result ≡ ls = c.letters_at-letters.ensures in
    record {
      place = ok.0;
      few = subst (λ (xs : List ℕ). length xs ≤ 1024) (sym is) ok.1;
      fits = subst (λ (xs : List ℕ). length (paper_of c.args.self.now.cells.now ps).cells + length xs ≤ get_or ps 0 0) (sym is) ok.3;
      room = ok.4;
    }

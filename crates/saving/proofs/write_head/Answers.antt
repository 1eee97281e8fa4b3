use Rattle.std.proofs.Common.{◌≡◌, ℕ, suc, ◌+◌, ◌-◌, ◌*◌, ◌≤◌, List, length, take, sym, ap, ◌∙◌, arith}
use Rattle.codec.specs.Bytes.{word_bytes, words_bytes}
use Rattle.codec.specs.Over.{over}
use Rattle.codec.proofs.Writes.{over_step}
use Rattle.saving.proofs.Runs.{run_none}
use Rattle.saving.proofs.Files.{head_from, head_first, length_word}
use Rattle.saving.proofs.write_head.Goals as goal

pub returns-then-n-eq0-clause-bytes : goal.returns-then-n-eq0-clause-bytes
returns-then-n-eq0-clause-bytes c = sym (run_none c.args.out.now c.args.at c.args.n _ c.if-n-eq0.true)

pub returns-then-from-gt0-clause-bytes : goal.returns-then-from-gt0-clause-bytes
returns-then-from-gt0-clause-bytes c =
    let w = c.args.row.now.words.now in
    let e : c.args.from - 1 + c.args.n - (c.args.from - 1) ≡ c.args.n = omega arith in
    let h = head_from w c.args.row.now.len c.args.row.now.fits c.args.from c.args.n c.if-from-gt0.true c.if-n-eq0.false c.requires.there in
    (rw e at c.write_words.ensures.bytes) ∙ ap (λ (ns : List ℕ). over c.args.out.now c.args.at (words_bytes ns)) h

pub returns-clause-bytes : goal.returns-clause-bytes
returns-clause-bytes c =
    let w = c.args.row.now.words.now in
    let nz = c.if-n-eq0.false in
    let z : c.args.from ≡ 0 = omega arith in
    let e : c.args.n ≡ suc (c.args.n - 1) = omega arith in
    let l : c.args.n - 1 ≤ 2 * c.args.row.now.len = omega arith in
    let h = head_first w c.args.row.now.len c.args.row.now.fits c.args.from c.args.n (c.args.n - 1) z e l in
    let v = length_word c.args.row.now.len in
    let a = c.number-at.ensures.next in
    let p : c.number-at.result ≡ c.args.at + length (word_bytes c.args.row.now.len) = omega arith in
    let f : c.number-at.result ≤ length c.args.out.now = omega arith in
    let s = over_step c.args.out.now c.args.at (word_bytes c.args.row.now.len) (words_bytes (take (c.args.n - 1) w)) c.number-at.ensures.bytes p f c.write_words-2.ensures.bytes in
    s ∙ ap (over c.args.out.now c.args.at) (sym h)

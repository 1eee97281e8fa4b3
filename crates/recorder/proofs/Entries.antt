-- The heads and the words of the four entries.
use Rattle.std.proofs.Common.{◌≡◌, ℕ, suc, ◌+◌, ◌*◌, ◌≤◌, List, length, take, drop, refl, arith}
use Rattle.std.proofs.lemmas.List.{length-take-le, length-drop}
use Rattle.model.specs.Paper.{Cell, Paper, cells_written, touched}
use Rattle.model.specs.Calls.{strikes, styles}
use Rattle.history.specs.Entry.{staying, marks_of, was_put, entry_of, much_of, counts}
use Rattle.history.specs.Words.{marks_written, payload_words}
use Rattle.history.specs.Head.{head_of, verdict_kind}
use Rattle.history.specs.declared.entry.Kind.{Kind}
use Rattle.history.specs.declared.entry.Kind.TheVariants.{Put, Strike, Style}
use Rattle.history.proofs.Logging.{length_cells_written, length_marks_written}
use Rattle.history.proofs.Undoing.{length_marks}
use Rattle.model.specs.declared.verdict.Verdict.{Verdict}
use Rattle.model.specs.declared.verdict.Verdict.TheVariants.{Accepted, Rejected}
use Rattle.recorder.specs.Records.{decided}

-- letters
pub put_words : (a i s : ℕ) (ls : List ℕ) → payload_words (was_put a i s ls) ≡ ls
unfolding payload_words
put_words a i s ls = refl

pub put_counts : (a i s : ℕ) (ls : List ℕ) → 1 + length ls ≡ counts (was_put a i s ls)
unfolding much_of
put_counts a i s ls = omega arith

pub put_head : (a i s : ℕ) (ls : List ℕ) →
    record { size = 8 + length ls; count = 1 + length ls; kind = Put; who = a; place = i; standing = length ls; style = s } ≡ head_of (was_put a i s ls)
unfolding head_of payload_words much_of
put_head a i s ls =
    let one : 1 + length ls ≡ suc (length ls) = omega arith in
    cc

-- a run of cells
pub run_long : (xs : List Cell) (i n : ℕ) → i + n ≤ length xs → length (take n (drop i xs)) ≡ n
run_long xs i n h = length-take-le n (drop i xs) (omega (arith, length-drop i xs))

module _ (p : Paper) (i n : ℕ) where
  pub struck_words : (a : ℕ) → payload_words (entry_of p (strikes a i n)) ≡ cells_written (take n (drop i p.cells))
  unfolding entry_of payload_words
  struck_words a = refl

  pub styled_words : (s : ℕ) → payload_words (entry_of p (styles i n s)) ≡ cells_written (take n (drop i p.cells))
  unfolding entry_of payload_words
  styled_words s = refl

module _ (p : Paper) (i n : ℕ) (h : i + n ≤ length p.cells) where
  pub struck_counts : (a : ℕ) → 1 + n ≡ counts (entry_of p (strikes a i n))
  unfolding entry_of much_of
  struck_counts a = omega (arith, run_long p.cells i n h)

  pub styled_counts : (s : ℕ) → 1 + n ≡ counts (entry_of p (styles i n s))
  unfolding entry_of much_of
  styled_counts s = omega (arith, run_long p.cells i n h)

  pub struck_head : (a k : ℕ) → k ≡ staying (take n (drop i p.cells)) p.changes a →
      record { size = 8 + 4 * n; count = 1 + n; kind = Strike; who = a; place = i; standing = k; style = 0 } ≡ head_of (entry_of p (strikes a i n))
  unfolding entry_of head_of payload_words much_of
  struck_head a k e =
      let old : List Cell = take n (drop i p.cells) in
      let l = run_long p.cells i n h in
      let size : 8 + 4 * n ≡ 8 + length (cells_written old) = omega (arith, length_cells_written old) in
      let one : 1 + n ≡ suc (length old) = omega arith in
      cc

  pub styled_head : (s : ℕ) →
      record { size = 8 + 4 * n; count = 1 + n; kind = Style; who = 0; place = i; standing = n; style = s } ≡ head_of (entry_of p (styles i n s))
  unfolding entry_of head_of payload_words much_of
  styled_head s =
      let old : List Cell = take n (drop i p.cells) in
      let l = run_long p.cells i n h in
      let size : 8 + 4 * n ≡ 8 + length (cells_written old) = omega (arith, length_cells_written old) in
      let one : 1 + n ≡ suc (length old) = omega arith in
      cc

-- marks
module _ (p : Paper) (c : ℕ) where
  pub decided_words : (o : Verdict) → payload_words (entry_of p (decided o c)) ≡ marks_written (marks_of p.cells c 0)
  unfolding entry_of payload_words
  decided_words Accepted = refl
  decided_words Rejected = refl

  pub decided_counts : (o : Verdict) (n : ℕ) → n ≡ touched p.cells c → 1 + n ≡ counts (entry_of p (decided o c))
  unfolding entry_of much_of
  decided_counts Accepted n e = omega (arith, length_marks p.cells c 0)
  decided_counts Rejected n e = omega (arith, length_marks p.cells c 0)

  pub decided_head : (o : Verdict) (n : ℕ) (k : Kind) → n ≡ touched p.cells c → k ≡ verdict_kind o →
      record { size = 8 + 5 * n; count = 1 + n; kind = k; who = c; place = 0; standing = 0; style = 0 } ≡ head_of (entry_of p (decided o c))
  unfolding entry_of head_of payload_words much_of
  decided_head Accepted n k e f =
      let l = length_marks p.cells c 0 in
      let size : 8 + 5 * n ≡ 8 + length (marks_written (marks_of p.cells c 0)) = omega (arith, length_marks_written (marks_of p.cells c 0)) in
      let one : 1 + n ≡ suc (length (marks_of p.cells c 0)) = omega arith in
      cc
  decided_head Rejected n k e f =
      let l = length_marks p.cells c 0 in
      let size : 8 + 5 * n ≡ 8 + length (marks_written (marks_of p.cells c 0)) = omega (arith, length_marks_written (marks_of p.cells c 0)) in
      let one : 1 + n ≡ suc (length (marks_of p.cells c 0)) = omega arith in
      cc

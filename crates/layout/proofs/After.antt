-- Passing over cells that are seen.
use Rattle.std.proofs.Common.{◌≡◌, ℕ, ◌+◌, ◌<◌, ◌≤◌, List, length, drop, Some, None, Option, refl, sym, ap, ◌∙◌, arith}
use Rattle.std.proofs.lemmas.List.{length-drop, drop-drop, drop_all}
use Rattle.model.specs.Paper.{view}
use Rattle.model.specs.declared.Cell.{Cell}
use Rattle.kept.specs.Text.{FoundSeen}
use Rattle.pieces.specs.Store.{cells_of, piece, strung}
use Rattle.pieces.specs.declared.Spot.{Spot}
use Rattle.layout.specs.declared.seen.Seen.{Seen}
use Rattle.layout.specs.Seen.{still, Gives}
use Rattle.layout.specs.Spots.{left}
use Rattle.layout.proofs.Spots.{left_end, left_front}
use Rattle.layout.proofs.Comes.{gives_more}

-- nothing is seen behind all cells
pub after_all : (c p : List ℕ) (s way place : ℕ) → length (view way (cells_of c p s)) ≤ place → left c p s way s 0 ≡ drop place (view way (cells_of c p s))
after_all c p s way place h = left_end c p s way s 0 refl ∙ sym (drop_all place (view way (cells_of c p s)) h)

module _ (c p : List ℕ) (s way place k o : ℕ) (f : FoundSeen c p s way place k o) where
  -- from the front of the piece on there is more than what is passed over
  pub after_some : place < length (view way (cells_of c p s)) → o < length (left c p s way k 0)
  after_some h =
      let i = f.here in
      let e = ap length (left_front c p s way k (omega arith)) in
      let d = length-drop (length (view way (strung (piece c p) 0 k))) (view way (cells_of c p s)) in
      let u = f.sum in
      omega arith

  pub after_rest : drop o (left c p s way k 0) ≡ drop place (view way (cells_of c p s))
  after_rest =
      let i = f.here in
      ap (drop o) (left_front c p s way k (omega arith)) ∙ drop-drop o (length (view way (strung (piece c p) 0 k))) (view way (cells_of c p s))
      ∙ ap (λ n. drop n (view way (cells_of c p s))) f.sum

-- after i cells of what comes from r on
pub record Past (r s : Seen) (i : ℕ) : Type 0 where
  pub text : s.text ≡ r.text
  pub way : s.way ≡ r.way
  pub rest : still s ≡ drop i (still r)

pub past_none : (r : Seen) → Past r r 0
past_none r = record { text = refl; way = refl; rest = refl }

pub past_more : (r s t : Seen) (i : ℕ) (o : Option (Spot × Cell)) → Past r s i → i < length (still r) → Gives s o t → Past r t (i + 1)
past_more r s t i None h l g =
    let e = ap length (sym h.rest ∙ g.0) in
    let d = length-drop i (still r) in
    absurd (omega arith)
past_more r s t i (Some (at, x)) h l g =
    let m : drop 1 (still s) ≡ still t = ap (drop 1) (gives_more s at x t g) in
    record { text = g.text ∙ h.text; way = g.way ∙ h.way; rest = sym m ∙ ap (drop 1) h.rest ∙ drop-drop 1 i (still r) }

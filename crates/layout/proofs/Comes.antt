-- What comes of a text, cell by cell.
use Rattle.std.proofs.Common.{◌≡◌, ℕ, ◌<◌, [], ◌∷◌, Option, refl, sym, ap, ◌∙◌, subst, arith}
use Rattle.model.specs.Values.{cell_of}
use Rattle.model.specs.declared.Cell.{Cell}
use Rattle.pieces.specs.declared.Spot.{Spot}
use Rattle.pieces.specs.Store.{used}
use Rattle.layout.specs.declared.seen.Seen.{Seen}
use Rattle.layout.specs.declared.sheet.Row.{Row}
use Rattle.layout.specs.declared.sheet.Sheet.{Sheet}
use Rattle.layout.specs.Found.{ahead, Within}
use Rattle.layout.specs.Seen.{still, seen_from, behind, GivesCell}
use Rattle.layout.proofs.Found.{Sought, Reaches}

pub gives_more : (s : Seen) (at : Spot) (x : Cell) (t : Seen) → GivesCell s at x t → still s ≡ cell_of x ∷ still t
gives_more s at x t g =
    let e : seen_from s (behind at) ≡ still t = rw (g.text, g.way, g.spot) refl in
    g.stands.first ∙ ap (λ ys. cell_of x ∷ ys) e

-- the same for a sheet whose text is looked at in that way
module _ (s : Sheet) (i : Seen) (text : i.text ≡ s.text) (way : i.way ≡ s.way) where
  pub ahead_is : (t : Spot) → seen_from i t ≡ ahead s t
  ahead_is t = rw (text, way) refl

  module _ (at : Spot) (x : Cell) (j : Seen) (g : GivesCell i at x j) where
    inside : Within s at × Within s (behind at)
    inside =
        let k : at.piece < s.text.slots = rw text at g.stands.piece in
        let l : at.offset < used s.text.tables.now at.piece = rw text at g.stands.offset in
        (record { piece = omega arith; offset = omega arith }, record { piece = omega arith; offset = omega arith })

    pub reaches : Reaches s at (cell_of x) (still j)
    reaches = record {
      in_at = inside.0;
      in_on = inside.1;
      from_at = sym (ahead_is at) ∙ g.stands.same ∙ gives_more i at x j g;
      from_on = sym (ahead_is (behind at)) ∙ rw (g.text, g.way, g.spot) refl;
    }

    pub sought_at : (t : Spot) (long : ℕ) (space : Option Row) → Sought s t (still i) long space → Sought s t (cell_of x ∷ still j) long space
    sought_at t long space h = subst (λ now. Sought s t now long space) (gives_more i at x j g) h

pub sought_end_of_text : (s : Sheet) (i : Seen) (t : Spot) (long : ℕ) (space : Option Row) → still i ≡ [] → Sought s t (still i) long space → Sought s t [] long space
sought_end_of_text s i t long space e h = subst (λ now. Sought s t now long space) e h

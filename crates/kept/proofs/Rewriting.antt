-- Changes of a text that is lent as one value.
use Rattle.std.proofs.Common.{◌≡◌, List, refl, ◌∙◌}
use Rattle.model.specs.Paper.{Cell}
use Rattle.kept.specs.Text.{cells_of_mut, Rewrites}
use Rattle.kept.specs.declared.text.TextMut.{TextMut}
use Rattle.kept.proofs.Edits.{edited_as, edited_both, edited_none}

-- what the text is afterwards
pub rewrites_text : (t u : TextMut) (xs : List Cell) → Rewrites t u xs → cells_of_mut u ≡ xs
rewrites_text t u xs a = rw a.same_slots a.edited.text

pub rewrites_none : (a : TextMut) (xs : List Cell) → cells_of_mut a ≡ xs → Rewrites a a xs
rewrites_none a xs e =
    record { same_cells = refl; same_tables = refl; same_slots = refl; edited = edited_none a.cells.now a.tables.now a.slots xs a.kept e }

pub rewrites_as : (a b : TextMut) (xs ys : List Cell) → Rewrites a b xs → xs ≡ ys → Rewrites a b ys
rewrites_as a b xs ys h e =
    record {
      same_cells = h.same_cells;
      same_tables = h.same_tables;
      same_slots = h.same_slots;
      edited = edited_as a.cells.now a.tables.now b.cells.now b.tables.now a.slots xs ys h.edited e;
    }

-- one change after another
pub rewrites_both : (t u v : TextMut) (xs ys zs : List Cell) → Rewrites t u xs → Rewrites u v ys → ys ≡ zs → Rewrites t v zs
rewrites_both t u v xs ys zs a b e =
    record {
      same_cells = b.same_cells ∙ a.same_cells;
      same_tables = b.same_tables ∙ a.same_tables;
      same_slots = b.same_slots ∙ a.same_slots;
      edited = edited_both t.cells.now t.tables.now u.cells.now u.tables.now v.cells.now v.tables.now t.slots ys zs a.edited.around (rw a.same_slots at b.edited) e;
    }

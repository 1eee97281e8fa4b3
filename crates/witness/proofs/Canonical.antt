-- A canonical memory for every paper that fits the limits, and its entries: its cells fill the pieces one after the other, piece k in slot k, and the log
-- begins with the oldest entry. It stands for every desk that the paper and the entries stand for, all its words fit four bytes, and with nothing in it
-- it is what opening leaves. Assumes nothing.
use Rattle.std.proofs.Common.{◌≡◌, ℕ, zero, suc, ◌+◌, ◌-◌, ◌*◌, ◌≤◌, leb, List, [], ◌∷◌, ◌++◌, length, drop, replicate, sym, refl, ap, ◌∙◌, subst, ap₂, arith, rules}
use Rattle.std.proofs.lemmas.List.{append_assoc, drop_at, drop-drop, length-append, length-replicate, replicate-append-replicate}
use Rattle.std.proofs.lemmas.Bool.{and_parts, leb-true}
use Rattle.model.specs.Paper.{Cell, Change, Paper, cells_written, changes_written}
use Rattle.model.specs.Calls.{Desk, Limits, new_desk}
use Rattle.model.specs.Promise.{GoodLimits, Memory}
use Rattle.changes.specs.Row.{changes_of}
use Rattle.history.specs.Entry.{Entry}
use Rattle.history.specs.Steps.{StandsFor}
use Rattle.history.specs.Words.{back_words, ahead_words}
use Rattle.history.proofs.Logging.{length_cells_written}
use Rattle.kept.specs.Kept.{Kept}
use Rattle.pieces.specs.Store.{cells_of}
use Rattle.session.specs.Memory.{stage, slots_for, cells_words, pieces_words, tables, paper_of, Held, Stands, opened_cells, opened_pieces}
use Rattle.session.specs.Contract.{Fit}
use Rattle.session.specs.Keeping.{Holds}
use Rattle.witness.proofs.Small.{Small, OfPaper, small_append, small_zeros, cells_small, changes_small}
use Rattle.witness.proofs.Entries.{log_for, length_log, is_log, log_for_small}
use Rattle.witness.proofs.Written.{length_changes_written, changes_back}
use Rattle.witness.proofs.Seen.{all_tables, length_all, all_fit, all_none, all_text, kept_all}

-- what memory keeps: a paper, and its entries on either side
pub record State : Type 0 where
  pub paper : Paper
  pub back : List Entry
  pub ahead : List Entry

-- its numbers fit four bytes
pub record OfState (s : State) : Type 0 where
  pub paper : OfPaper s.paper
  pub back : Small (back_words s.back)
  pub ahead : Small (ahead_words s.ahead)

-- the limits l, for the calls that can be done
abbrev pub staged : Limits → Limits
staged l = record { calls_can = stage; cells = l.cells; changes = l.changes; undos = l.undos }

-- each slice, part by part
abbrev cells_left : Limits → Paper → List ℕ
cells_left l p = replicate (cells_words l.cells - 4 * length p.cells) 0

abbrev changes_left : Limits → Paper → List ℕ
changes_left l p = replicate (2 * l.changes - 2 * length p.changes) 0

abbrev head_for : Limits → Paper → List ℕ
head_for l p = l.cells ∷ (l.changes ∷ (l.undos ∷ (length p.changes ∷ replicate 12 0)))

abbrev row_for : Limits → Paper → List ℕ
row_for l p = changes_written p.changes ++ changes_left l p

abbrev store_for : Limits → Paper → List ℕ
store_for l p = all_tables p.cells (slots_for l.cells)

abbrev pub cells_for : Limits → Paper → List ℕ
cells_for l p = cells_written p.cells ++ cells_left l p

abbrev pub pieces_for : Limits → Paper → List ℕ
pieces_for l p = head_for l p ++ (row_for l p ++ store_for l p)

abbrev pub undo_for : Limits → State → List ℕ
undo_for l s = log_for l.undos s.back s.ahead

abbrev pub memory_for : Limits → State → Memory
memory_for l s = record { words = pieces_for l s.paper ++ (cells_for l s.paper ++ undo_for l s) }

-- a paper within limits that a desk can have
record Within (l : Limits) (p : Paper) : Type 0 where
  good : GoodLimits l
  cells : length p.cells ≤ l.cells
  changes : length p.changes ≤ l.changes

module _ (l : Limits) (p : Paper) (within : Within l p) where
  length_row : length (row_for l p) ≡ 2 * l.changes
  length_row =
      let a = length-append (changes_written p.changes) (changes_left l p) in
      let b = length_changes_written p.changes in
      let c = length-replicate {A = ℕ} (2 * l.changes - 2 * length p.changes) 0 in
      omega (arith, within.changes)

  length_cells_for : length (cells_for l p) ≡ cells_words l.cells
  length_cells_for =
      let a = length-append (cells_written p.cells) (cells_left l p) in
      let b = length_cells_written p.cells in
      let c = length-replicate {A = ℕ} (cells_words l.cells - 4 * length p.cells) 0 in
      omega (arith, within.cells)

  length_pieces_for : length (pieces_for l p) ≡ pieces_words l.changes
  length_pieces_for =
      let a = length-append (row_for l p) (store_for l p) in
      let b = length_row in
      let c = length_all p.cells (slots_for l.cells) in
      omega arith

  tables_are : tables (pieces_for l p) ≡ store_for l p
  tables_are = sym (drop-drop (2 * l.changes) 16 (pieces_for l p)) ∙ drop_at (row_for l p) (store_for l p) (2 * l.changes) length_row

  cells_are : cells_of (cells_for l p) (tables (pieces_for l p)) (slots_for l.cells) ≡ p.cells
  cells_are = rw tables_are (all_text (cells_for l p) (cells_left l p) p.cells (slots_for l.cells) (omega arith) refl (omega (arith, within.cells)))

  changes_are : changes_of (drop 16 (pieces_for l p)) (length p.changes) ≡ p.changes
  changes_are =
      changes_back (drop 16 (pieces_for l p)) (changes_left l p ++ store_for l p) 0 p.changes
      (append_assoc (changes_written p.changes) (changes_left l p) (store_for l p))

  paper_is : paper_of (cells_for l p) (pieces_for l p) ≡ p
  paper_is = ap₂ (λ (xs : List Cell) (ys : List Change). record { cells = xs; changes = ys }) cells_are changes_are

  held_for : Held (cells_for l p) (pieces_for l p)
  held_for =
      let long-cells = length_cells_for in
      let long-pieces = length_pieces_for in
      let kept : Kept (cells_for l p) (tables (pieces_for l p)) (slots_for l.cells) =
      rw tables_are (kept_all (cells_for l p) (cells_left l p) p.cells (slots_for l.cells) (omega arith) refl (omega arith) (omega (arith, within.cells)) (omega arith)) in
      let cells_fit : length (paper_of (cells_for l p) (pieces_for l p)).cells ≤ l.cells = rw cells_are within.cells in
      search rules

  pieces_small : OfPaper p → Small (pieces_for l p)
  pieces_small small =
      small_append (head_for l p) (row_for l p ++ store_for l p) head_small
      (small_append (row_for l p) (store_for l p)
      (small_append (changes_written p.changes) (changes_left l p) (changes_small p.changes small.changes) (small_zeros _))
      (all_fit p.cells (slots_for l.cells) (omega arith)))
    where
      head_small : Small (head_for l p)
      head_small zero = omega arith
      head_small (suc zero) = omega arith
      head_small (suc (suc zero)) = omega arith
      head_small (suc (suc (suc zero))) = omega arith
      head_small (suc (suc (suc (suc i)))) = small_zeros 12 i

module _ (l : Limits) (s : State) (d : Desk) (good : GoodLimits l) (desk : StandsFor (staged l) s.paper s.back s.ahead d) where
  within : Within l s.paper
  within =
      let p : Paper = s.paper in
      let room = and_parts (leb (length p.cells) l.cells) (leb (length p.changes) l.changes) desk.sane.fit in
      record { good = good; cells = leb-true (length p.cells) l.cells room.0; changes = leb-true (length p.changes) l.changes room.1 }

  pub holds_for : Holds (memory_for l s) (cells_for l s.paper) (pieces_for l s.paper) (undo_for l s)
  holds_for =
      record {
        words = refl;
        cells = length_cells_for l s.paper within;
        pieces = length_pieces_for l s.paper within;
        undo = length_log l.undos s.back s.ahead good.2 desk.sane.within;
      }

  pub stands_at : Stands (cells_for l s.paper) (pieces_for l s.paper) (undo_for l s) d
  stands_at =
      let here : StandsFor (staged l) (paper_of (cells_for l s.paper) (pieces_for l s.paper)) s.back s.ahead d =
      subst (λ (p : Paper). StandsFor (staged l) p s.back s.ahead d) (sym (paper_is l s.paper within)) desk in
      let log = is_log l.undos s.back s.ahead good.2 desk.sane.within in
      record {
        sound = record { held = held_for l s.paper within; undo_long = log.long; back = s.back; ahead = s.ahead; log = log; sane = here.sane };
        desk = here;
      }

  pub fit_for : OfState s → Fit (cells_for l s.paper) (pieces_for l s.paper) (undo_for l s)
  fit_for small = (
    small_append (cells_written s.paper.cells) (cells_left l s.paper) (cells_small s.paper.cells small.paper.cells) (small_zeros _),
    pieces_small l s.paper within small.paper,
    log_for_small l.undos s.back s.ahead good.2 desk.sane.within small.back small.ahead,
  )

-- nothing at all
abbrev pub empty : State
empty = record { paper = new_desk.now; back = []; ahead = [] }

pub opened_cells_are : (l : Limits) → cells_for l empty.paper ≡ opened_cells l.cells
unfolding cells_written
opened_cells_are l = let e : cells_words l.cells - 4 * 0 ≡ cells_words l.cells = omega arith in ap (λ (k : ℕ). replicate k 0) e

pub opened_pieces_are : (l : Limits) → GoodLimits l → pieces_for l empty.paper ≡ opened_pieces l.cells l.changes l.undos
unfolding changes_written
opened_pieces_are l good =
    let e : 2 * l.changes - 2 * 0 ≡ 2 * l.changes = omega arith in
    let zeros : replicate {A = ℕ} 13 0 ++ replicate (2 * l.changes - 2 * 0) 0 ≡ replicate (13 + 2 * l.changes) 0 =
    ap (λ (k : ℕ). replicate {A = ℕ} 13 0 ++ replicate k 0) e ∙ replicate-append-replicate 13 (2 * l.changes) 0 in
    ap₂ (λ (xs ys : List ℕ). l.cells ∷ (l.changes ∷ (l.undos ∷ (xs ++ ys)))) zeros (all_none (slots_for l.cells) (omega arith))

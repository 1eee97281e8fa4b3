-- Undo and redo: from the entries in the log to the paper in memory and to every desk that memory stands for. Assumes nothing.
use Rattle.std.proofs.Common.{◌≡◌, ℕ, zero, suc, ◌+◌, ◌-◌, ◌*◌, ◌<◌, ◌≤◌, Bool, true, false, ◌&&◌, ◌||◌, eqb, ltb, leb, ◌≢◌, List, [], ◌∷◌, ◌++◌, length, get_or, take, drop, set, sym, refl, ap, ◌∙◌, subst, zero-add, arith, get_or-set_other, get_or-set_same, eqb-true, leb-true}
use Rattle.std.proofs.lemmas.List.{length-append, length-set, length-drop, drop-set-lt, take_at, length-take-le}
use Rattle.model.specs.Paper.{pick, Change, Paper}
use Rattle.model.specs.Calls.{Call, put, strikes, accepts, rejects, styles, undo, redo, number, refused, Desk, Limits, good_letters, good_fields, fits, turned_by, writes, rewritten, turned, after, told, place, answer}
use Rattle.codec.specs.Bytes.{answer_bytes}
use Rattle.changes.specs.Row.{changes_of}
use Rattle.changes.proofs.Steps.{length_changes, changes_more}
use Rattle.history.specs.Entry.{Entry, was_put, was_struck, was_accepted, was_rejected, was_styled, much_of, call_of, but_last, entry_of, undo_of, redo_of, Can, UndoCan}
use Rattle.history.specs.Steps.{past_of, future_of, Made, SaneBack, SaneAhead, Sane, StandsFor}
use Rattle.history.specs.Words.{payload_words, entry_size, EntryAt}
use Rattle.history.specs.Head.{head_of}
use Rattle.history.specs.Log.{Log, Stepped, StepsBack, StepsAhead}
use Rattle.history.specs.declared.entry.Head.{Head}
use Rattle.history.proofs.Heads.{payload_stands}
use Rattle.history.proofs.Keeping.{from_on}
use Rattle.history.proofs.Logging.{log_long, length_cells_written, length_marks_written}
use Rattle.history.proofs.Stepping.{can_there, not_turned, undo_turned, redo_turned, undo_steps, redo_steps}
use Rattle.history.proofs.Undoing.{undo_finds}
use Rattle.session.specs.Memory.{undo_words, limits_of, tables, paper_of, Held, Sound, Stands}
use Rattle.session.specs.Acts.{Wrote, Rowed, desk_of, row_of, with_cells, with_changes}
use Rattle.session.specs.Contract.{Beyond, Done, Handled}
use Rattle.session.specs.Undoing.{entry_in, There, CanUndo, CanRedo, row_back, RowCan, call_again}
use Rattle.session.proofs.Acting.{apart}
use Rattle.session.proofs.Putting.{changes_counted, still}
use Rattle.session.proofs.Ranges.{both_true}
use Rattle.session.proofs.Serving.{stands_at, turned_done, same_beyond}
use Rattle.session.proofs.Writing.{inserted_length, noted_too, rowed}

-- the call of an entry writes
call_writes : (e : Entry) → writes (call_of e) ≡ true
unfolding call_of writes
call_writes (was_put a i s ls) = refl
call_writes (was_struck a i k old) = refl
call_writes (was_accepted c ms) = refl
call_writes (was_rejected c ms) = refl
call_writes (was_styled i s old) = refl

-- undo finds what it needs where an entry is sane
made_can : (l : Limits) (e : Entry) (before next : Paper) → Made l e before next → UndoCan e next
unfolding past_of future_of
made_can l e before next m =
    let d : Desk = record { now = before; past = []; future = [] } in
    let n = not_turned l d (call_of e) m.allowed in
    let can : Can before (call_of e) = can_there d (call_of e) (call_writes e) n.1 in
    let there : UndoCan (entry_of before (call_of e)) (rewritten before (call_of e)) = undo_finds before (call_of e) can in
    subst (λ (f : Entry). UndoCan f next) m.entry (subst (λ (p : Paper). UndoCan (entry_of before (call_of e)) p) m.paper there)

-- where an entry was stepped over, it stands
entry_is : (us : List ℕ) (a : ℕ) (e : Entry) → EntryAt us a e → entry_in us a ≡ e
entry_is us a e h = h.reads

there_at : (us : List ℕ) (a : ℕ) (e : Entry) → EntryAt us a e → a + entry_size e ≤ length us → There us a
there_at us a e h inside =
    let is : e ≡ entry_in us a = sym (entry_is us a e h) in
    record { stands = subst (λ (f : Entry). EntryAt us a f) is h; inside = subst (λ (f : Entry). a + entry_size f ≤ length us) is inside }

back_can : (cs ps us us' : List ℕ) (a : ℕ) (back ahead : List Entry) → Log us (get_or ps 2 0) back ahead → Sane (limits_of ps) (paper_of cs ps) back ahead →
    0 < length back → StepsBack us us' a → CanUndo cs ps us' a
unfolding SaneBack
back_can cs ps us us' a [] ahead log sane some steps = absurd (omega arith)
back_can cs ps us us' a (e ∷ back) ahead log sane some steps =
    let l : Limits = limits_of ps in
    let p : Paper = paper_of cs ps in
    let s : Stepped us us' (get_or ps 2 0) back (e ∷ ahead) a e = steps (get_or ps 2 0) e back ahead log in
    let is : e ≡ entry_in us' a = sym (entry_is us' a e s.stands) in
    let m : Made l e (undo_of e p) p = sane.behind.0 in
    record {
      there = there_at us' a e s.stands s.inside;
      can = subst (λ (f : Entry). UndoCan f p) is (made_can l e (undo_of e p) p m);
      fits = subst (λ (f : Entry). fits l (undo_of f p) ≡ true) is m.fit;
    }

pub can_undo : (cs ps us us' : List ℕ) (a : ℕ) (s : Sound cs ps us) → 0 < length s.back → StepsBack us us' a → CanUndo cs ps us' a
can_undo cs ps us us' a s some steps = back_can cs ps us us' a s.back s.ahead s.log s.sane some steps

ahead_can : (cs ps us us' : List ℕ) (a : ℕ) (back ahead : List Entry) → Log us (get_or ps 2 0) back ahead → Sane (limits_of ps) (paper_of cs ps) back ahead →
    0 < length ahead → StepsAhead us us' a → CanRedo cs ps us' a
unfolding SaneAhead past_of future_of
ahead_can cs ps us us' a back [] log sane some steps = absurd (omega arith)
ahead_can cs ps us us' a back (e ∷ ahead) log sane some steps =
    let l : Limits = limits_of ps in
    let s : Stepped us us' (get_or ps 2 0) (e ∷ back) ahead a e = steps (get_or ps 2 0) e back ahead log in
    let is : e ≡ entry_in us' a = sym (entry_is us' a e s.stands) in
    record {
      there = there_at us' a e s.stands s.inside;
      allowed = subst (λ (f : Entry). turned l (desk_of cs ps) (call_of f) ≡ 0) is sane.before.0.allowed;
    }

pub can_redo : (cs ps us us' : List ℕ) (a : ℕ) (s : Sound cs ps us) → 0 < length s.ahead → StepsAhead us us' a → CanRedo cs ps us' a
can_redo cs ps us us' a s some steps = ahead_can cs ps us us' a s.back s.ahead s.log s.sane some steps

-- nothing to undo, and nothing to do again
none_back : (cs ps us : List ℕ) (d : Desk) (st : Stands cs ps us d) → length st.sound.back ≡ 0 → turned (limits_of ps) d undo ≡ 7
none_back cs ps us d st none =
    (undo_turned (limits_of ps) (paper_of cs ps) st.sound.back st.sound.ahead d st.desk refl).0 ∙ ap (λ (n : ℕ). pick {A = ℕ} (eqb n 0) 7 0) none

none_ahead : (cs ps us : List ℕ) (d : Desk) (st : Stands cs ps us d) → length st.sound.ahead ≡ 0 → turned (limits_of ps) d redo ≡ 7
none_ahead cs ps us d st none =
    (redo_turned (limits_of ps) (paper_of cs ps) st.sound.back st.sound.ahead d st.desk refl).0 ∙ ap (λ (n : ℕ). pick {A = ℕ} (eqb n 0) 7 0) none

pub undo_refused : (cs ps us : List ℕ) (n : ℕ) → n ≡ 0 → ((limit : ℕ) (back ahead : List Entry) → Log us limit back ahead → n ≡ length back) →
    Handled cs ps us undo cs ps us (answer_bytes (refused 7 0))
unfolding place
undo_refused cs ps us n none many =
    record {
      does = λ d st. turned_done cs ps us undo 6 d st (none_back cs ps us d st (sym (many (get_or ps 2 0) st.sound.back st.sound.ahead st.sound.log) ∙ none));
      beyond = same_beyond cs ps us;
    }

pub redo_refused : (cs ps us : List ℕ) (n : ℕ) → n ≡ 0 → ((limit : ℕ) (back ahead : List Entry) → Log us limit back ahead → n ≡ length ahead) →
    Handled cs ps us redo cs ps us (answer_bytes (refused 7 0))
unfolding place
redo_refused cs ps us n none many =
    record {
      does = λ d st. turned_done cs ps us redo 6 d st (none_ahead cs ps us d st (sym (many (get_or ps 2 0) st.sound.back st.sound.ahead st.sound.log) ∙ none));
      beyond = same_beyond cs ps us;
    }

never : (n : ℕ) (A : Type 0) → n ≡ 0 → 0 < n → A
never n A e h = absurd (omega arith)

some_there : (n : ℕ) → 0 < n → eqb n 0 ≡ false
some_there zero h = absurd (omega arith)
some_there (suc n) h = apart n

-- one step was undone, or done again
step_done : (cs ps us cs' ps' us' : List ℕ) (c : Call) (d : Desk) (n : ℕ) → 0 < n → turned (limits_of ps) d c ≡ pick (eqb n 0) 7 0 → told d c ≡ number n →
    limits_of ps' ≡ limits_of ps → Stands cs' ps' us' (after (limits_of ps) d c) → Done cs ps us d c cs' ps' us' (answer_bytes (number n))
step_done cs ps us cs' ps' us' c d n some t says limits stands =
    let l : Limits = limits_of ps in
    let t0 : turned l d c ≡ 0 = t ∙ ap (λ (b : Bool). pick {A = ℕ} b 7 0) (some_there n some) in
    let a : answer l d c ≡ told d c = ap (λ (m : ℕ). pick (eqb m 0) (told d c) (refused m (place c m))) t0 in
    record {
      stands = stands;
      limits = limits;
      says = ap answer_bytes (sym (a ∙ says));
      kept = never (turned l d c) ((cs' ≡ cs) × (ps' ≡ ps) × (us' ≡ us)) t0;
    }

undone_at : (cs ps us cs' ps' us' : List ℕ) (a : ℕ) (d : Desk) (back ahead : List Entry) → Sound cs ps us → Log us (get_or ps 2 0) back ahead →
    StandsFor (limits_of ps) (paper_of cs ps) back ahead d → 0 < length back → StepsBack us us' a → length us' ≡ length us →
    Wrote cs ps cs' ps' (undo_of (entry_in us' a) (paper_of cs ps)) → Done cs ps us d undo cs' ps' us' (answer_bytes (number (length back)))
undone_at cs ps us cs' ps' us' a d [] ahead sound log desk some steps long wrote = absurd (omega arith)
undone_at cs ps us cs' ps' us' a d (e ∷ back) ahead sound log desk some steps long wrote =
    let l : Limits = limits_of ps in
    let p : Paper = paper_of cs ps in
    let s : Stepped us us' (get_or ps 2 0) back (e ∷ ahead) a e = steps (get_or ps 2 0) e back ahead log in
    let w : Wrote cs ps cs' ps' (undo_of e p) = subst (λ (f : Entry). Wrote cs ps cs' ps' (undo_of f p)) (entry_is us' a e s.stands) wrote in
    let t = undo_turned l p (e ∷ back) ahead d desk refl in
    step_done cs ps us cs' ps' us' undo d (length (e ∷ back)) some t.0 t.1 w.limits
    (stands_at cs ps us cs' ps' us' (undo_of e p) back (e ∷ ahead) (after l d undo) sound w long s.log (undo_steps l p e back ahead d desk refl))

redone_at : (cs ps us cs' ps' us' : List ℕ) (a : ℕ) (d : Desk) (back ahead : List Entry) → Sound cs ps us → Log us (get_or ps 2 0) back ahead →
    StandsFor (limits_of ps) (paper_of cs ps) back ahead d → 0 < length ahead → StepsAhead us us' a → length us' ≡ length us →
    Wrote cs ps cs' ps' (rewritten (paper_of cs ps) (call_of (entry_in us' a))) → Done cs ps us d redo cs' ps' us' (answer_bytes (number (length ahead)))
redone_at cs ps us cs' ps' us' a d back [] sound log desk some steps long wrote = absurd (omega arith)
redone_at cs ps us cs' ps' us' a d back (e ∷ ahead) sound log desk some steps long wrote =
    let l : Limits = limits_of ps in
    let p : Paper = paper_of cs ps in
    let s : Stepped us us' (get_or ps 2 0) (e ∷ back) ahead a e = steps (get_or ps 2 0) e back ahead log in
    let w : Wrote cs ps cs' ps' (redo_of e p) = subst (λ (f : Entry). Wrote cs ps cs' ps' (rewritten p (call_of f))) (entry_is us' a e s.stands) wrote in
    let t = redo_turned l p back (e ∷ ahead) d desk refl in
    step_done cs ps us cs' ps' us' redo d (length (e ∷ ahead)) some t.0 t.1 w.limits
    (stands_at cs ps us cs' ps' us' (redo_of e p) (e ∷ back) ahead (after l d redo) sound w long s.log (redo_steps l p e back ahead d desk refl))

-- the words beyond those that the limits ask for
beyond_log : (us us' : List ℕ) (u : ℕ) → drop 7 us' ≡ drop 7 us → drop (undo_words u) us' ≡ drop (undo_words u) us
beyond_log us us' u rest = from_on us us' 7 (16 + 16 * u) (omega arith) rest

step_beyond : {cs ps us cs' ps' us' : List ℕ} {p : Paper} → Wrote cs ps cs' ps' p → drop 7 us' ≡ drop 7 us → length us' ≡ length us →
    Beyond cs ps us cs' ps' us' (limits_of ps)
step_beyond {cs} {ps} {us} {cs'} {ps'} {us'} {p} w rest long =
    record {
      cells = w.cells_beyond;
      pieces = w.pieces_beyond;
      undo = beyond_log us us' (get_or ps 2 0) rest;
      cells_length = w.cells_length;
      pieces_length = w.pieces_length;
      undo_length = long;
    }

pub undo_handled : (cs ps us cs' ps' us' : List ℕ) (a n : ℕ) → 0 < n → ((limit : ℕ) (back ahead : List Entry) → Log us limit back ahead → n ≡ length back) →
    StepsBack us us' a → drop 7 us' ≡ drop 7 us → length us' ≡ length us → Wrote cs ps cs' ps' (undo_of (entry_in us' a) (paper_of cs ps)) →
    Handled cs ps us undo cs' ps' us' (answer_bytes (number n))
undo_handled cs ps us cs' ps' us' a n some many steps rest long wrote =
    record {
      does = λ d st.
          let is : n ≡ length st.sound.back = many (get_or ps 2 0) st.sound.back st.sound.ahead st.sound.log in
          subst (λ (m : ℕ). Done cs ps us d undo cs' ps' us' (answer_bytes (number m))) (sym is)
          (undone_at cs ps us cs' ps' us' a d st.sound.back st.sound.ahead st.sound st.sound.log st.desk (omega (arith, is, some)) steps long wrote);
      beyond = step_beyond wrote rest long;
    }

pub redo_handled : (cs ps us cs' ps' us' : List ℕ) (a n : ℕ) → 0 < n → ((limit : ℕ) (back ahead : List Entry) → Log us limit back ahead → n ≡ length ahead) →
    StepsAhead us us' a → drop 7 us' ≡ drop 7 us → length us' ≡ length us → Wrote cs ps cs' ps' (rewritten (paper_of cs ps) (call_of (entry_in us' a))) →
    Handled cs ps us redo cs' ps' us' (answer_bytes (number n))
redo_handled cs ps us cs' ps' us' a n some many steps rest long wrote =
    record {
      does = λ d st.
          let is : n ≡ length st.sound.ahead = many (get_or ps 2 0) st.sound.back st.sound.ahead st.sound.log in
          subst (λ (m : ℕ). Done cs ps us d redo cs' ps' us' (answer_bytes (number m))) (sym is)
          (redone_at cs ps us cs' ps' us' a d st.sound.back st.sound.ahead st.sound st.sound.log st.desk (omega (arith, is, some)) steps long wrote);
      beyond = step_beyond wrote rest long;
    }

-- the row of changes that an entry brings back, by its head
pub row_is : (e : Entry) (p : Paper) → (undo_of e p).changes ≡ row_back (head_of e).kind (head_of e).who p.changes
unfolding undo_of head_of
row_is (was_put a i s ls) p = refl
row_is (was_struck a i k old) p = refl
row_is (was_accepted c ms) p = refl
row_is (was_rejected c ms) p = refl
row_is (was_styled i s old) p = refl

pub row_can : (e : Entry) (p : Paper) (n : ℕ) → length p.changes ≡ n → UndoCan e p → RowCan (head_of e).kind (head_of e).who n
unfolding UndoCan head_of
row_can (was_put a i s ls) p n is can = omega (arith, is, can.1)
row_can (was_struck a i k old) p n is can = omega (arith, is, can.1)
row_can (was_accepted c ms) p n is can = omega (arith, is, can.1)
row_can (was_rejected c ms) p n is can = omega (arith, is, can.1)
row_can (was_styled i s old) p n is can = tt

-- the cells that it brings back do not depend on the changes
pub cells_back_few : (l : Limits) (p : Paper) → fits l p ≡ true → length p.cells ≤ l.cells
cells_back_few l p h = leb-true (length p.cells) l.cells (both_true (leb (length p.cells) l.cells) (leb (length p.changes) l.changes) h).0

-- the latest change goes
pub dropped_change : (ps : List ℕ) → 0 < get_or ps 3 0 → get_or ps 3 0 ≤ get_or ps 1 0 → 16 + 2 * get_or ps 1 0 ≤ length ps →
    changes_of (drop 16 ps) (get_or ps 3 0 - 1) ≡ but_last (row_of ps)
dropped_change ps some few long =
    let w : List ℕ = drop 16 ps in
    let n : ℕ = get_or ps 3 0 - 1 in
    let k : get_or ps 3 0 ≡ suc n = omega arith in
    let more : changes_of w (suc n) ≡ changes_of w n ++ (_ ∷ []) = rw zero-add at (changes_more w 0 n) in
    let all : row_of ps ≡ changes_of w (suc n) = ap (changes_of w) k in
    let long-all : length (row_of ps) ≡ get_or ps 3 0 = length_changes w 0 (get_or ps 3 0) in
    let long-one : length (changes_of w n) ≡ n = length_changes w 0 n in
    let one : length (row_of ps) - 1 ≡ n = omega arith in
    sym (ap (λ (m : ℕ). take m (row_of ps)) one ∙ (ap (take n) (all ∙ more) ∙ take_at (changes_of w n) _ n long-one))

pub change_dropped : (ps : List ℕ) → 0 < get_or ps 3 0 → get_or ps 3 0 ≤ get_or ps 1 0 → 16 + 2 * get_or ps 1 0 ≤ length ps →
    Rowed ps (set ps 3 (get_or ps 3 0 - 1)) (but_last (row_of ps))
change_dropped ps some few long =
    let c : ℕ = get_or ps 1 0 in
    let n : ℕ = get_or ps 3 0 - 1 in
    let q : List ℕ = set ps 3 n in
    let same : (i : ℕ) → i < 3 → get_or q i 0 ≡ get_or ps i 0 = λ i h. let ne : i ≢ 3 = omega arith in get_or-set_other ps 3 i n 0 ne in
    let g0 : get_or q 0 0 ≡ get_or ps 0 0 = same 0 (omega arith) in
    let g1 : get_or q 1 0 ≡ c = same 1 (omega arith) in
    let g2 : get_or q 2 0 ≡ get_or ps 2 0 = same 2 (omega arith) in
    let g3 : get_or q 3 0 ≡ n = get_or-set_same ps 3 n 0 (omega arith) in
    let d : drop 16 q ≡ drop 16 ps = drop-set-lt 16 ps 3 n (omega arith) in
    let t : tables q ≡ tables ps = ap (λ (k : ℕ). drop (16 + 2 * k) q) g1 ∙ drop-set-lt (16 + 2 * c) ps 3 n (omega arith) in
    let limits : limits_of q ≡ limits_of ps = cc in
    let rows : changes_of (drop 16 q) (get_or q 3 0) ≡ but_last (row_of ps) =
    ap (λ (k : ℕ). changes_of (drop 16 q) k) g3 ∙ (ap (λ (xs : List ℕ). changes_of xs n) d ∙ dropped_change ps some few long) in
    record { limits = limits; tables = t; changes = rows; fits = omega arith; words = length-set ps 3 n }

-- the same, in memory
pub dropped : {cs ps : List ℕ} → Held cs ps → 0 < get_or ps 3 0 → Wrote cs ps cs (set ps 3 (get_or ps 3 0 - 1)) (with_changes (paper_of cs ps) (but_last (paper_of cs ps).changes))
dropped {cs} {ps} held some =
    rowed cs ps (set ps 3 (get_or ps 3 0 - 1)) (but_last (row_of ps)) held (change_dropped ps some held.changes_fit (omega (arith, held.pieces_long)))

-- cells and changes together: the paper before
pub taken_back : (cs ps cs' ps' ds qs us : List ℕ) (a : ℕ) (h : Head) → h ≡ head_of (entry_in us a) →
    Wrote cs ps cs' ps' (with_cells (paper_of cs ps) (undo_of (entry_in us a) (paper_of cs ps)).cells) →
    Wrote cs' ps' ds qs (with_changes (paper_of cs' ps') (row_back h.kind h.who (paper_of cs' ps').changes)) → Wrote cs ps ds qs (undo_of (entry_in us a) (paper_of cs ps))
taken_back cs ps cs' ps' ds qs us a h is wrote note =
    let e : Entry = entry_in us a in
    let p : Paper = paper_of cs ps in
    let rows : (undo_of e p).changes ≡ row_back h.kind h.who p.changes =
    row_is e p ∙ ap (λ (g : Head). row_back g.kind g.who p.changes) (sym is) in
    subst (λ (rs : List Change). Wrote cs ps ds qs (record { cells = (undo_of e p).cells; changes = rs })) (sym rows) (noted_too p (row_back h.kind h.who) wrote note)

pub change_can : (cs ps cs' ps' us : List ℕ) (a : ℕ) (h : Head) → CanUndo cs ps us a → h ≡ head_of (entry_in us a) →
    Wrote cs ps cs' ps' (with_cells (paper_of cs ps) (undo_of (entry_in us a) (paper_of cs ps)).cells) → RowCan h.kind h.who (get_or ps' 3 0)
change_can cs ps cs' ps' us a h can is wrote =
    let n : length (paper_of cs ps).changes ≡ get_or ps' 3 0 = changes_counted cs ps ∙ sym (still wrote).0 in
    subst (λ (g : Head). RowCan g.kind g.who (get_or ps' 3 0)) (sym is) (row_can (entry_in us a) (paper_of cs ps) (get_or ps' 3 0) n can.can)

-- how many entries there are fits a word
pub few_entries : (us : List ℕ) (limit : ℕ) (back ahead : List Entry) → Log us limit back ahead → (length back < 4294967296) × (length ahead < 4294967296)
few_entries us limit back ahead log =
    let k = log_long us _ _ _ back ahead log.words in
    let a = k.2 in
    let b = k.3 in
    (omega (arith, log.room, log.low, log.words.ended, log.words.begun), omega (arith, log.room, log.low))

-- the words of an entry are at least as many as the cells that it is about
pub payload_most : (e : Entry) → (head_of e).count - 1 ≤ length (payload_words e)
unfolding head_of much_of payload_words
payload_most (was_put a i s ls) = omega arith
payload_most (was_struck a i k old) = let n = length_cells_written old in omega arith
payload_most (was_accepted c ms) = let n = length_marks_written ms in omega arith
payload_most (was_rejected c ms) = let n = length_marks_written ms in omega arith
payload_most (was_styled i s old) = let n = length_cells_written old in omega arith

-- the call of an entry, from its head and its letters
pub call_is_again : (us : List ℕ) (a : ℕ) (e : Entry) → EntryAt us a e → call_again (head_of e).kind (head_of e) (take ((head_of e).count - 1) (drop (a + 7) us)) ≡ call_of e
unfolding call_of head_of much_of payload_words
call_is_again us a (was_put n i s ls) h =
    let k : a + 7 + length ls - (a + 7) ≡ length ls = omega arith in
    let is : take (length ls) (drop (a + 7) us) ≡ ls = ap (λ (m : ℕ). take m (drop (a + 7) us)) (sym k) ∙ payload_stands us a (was_put n i s ls) h in
    let one : suc (length ls) - 1 ≡ length ls = omega arith in
    ap (λ (m : ℕ). put n i s (take m (drop (a + 7) us))) one ∙ ap (put n i s) is
call_is_again us a (was_struck n i k old) h = let one : suc (length old) - 1 ≡ length old = omega arith in ap (strikes n i) one
call_is_again us a (was_accepted c ms) h = refl
call_is_again us a (was_rejected c ms) h = refl
call_is_again us a (was_styled i s old) h = let one : suc (length old) - 1 ≡ length old = omega arith in ap (λ (m : ℕ). styles i m s) one

-- what a call that is not turned away finds
pub put_allowed : (cs ps : List ℕ) (a i s : ℕ) (ls : List ℕ) → turned (limits_of ps) (desk_of cs ps) (put a i s ls) ≡ 0 →
    (i ≤ length (paper_of cs ps).cells) × (length ls ≤ 1024) × (good_letters ls ≡ true) × (length (paper_of cs ps).cells + length ls ≤ get_or ps 0 0) × (get_or ps 3 0 < get_or ps 1 0)
unfolding good_fields turned_by rewritten Can writes
put_allowed cs ps a i s ls t =
    let l : Limits = limits_of ps in
    let p : Paper = paper_of cs ps in
    let n = not_turned l (desk_of cs ps) (put a i s ls) t in
    let good : good_fields (put a i s ls) ≡ true = n.0 in
    let ok = (both_true (ltb a 256 && ltb s 256) (good_letters ls && (leb 1 (length ls) && leb (length ls) 1024)) good).1 in
    let ok2 = both_true (good_letters ls) (leb 1 (length ls) && leb (length ls) 1024) ok in
    let few = leb-true (length ls) 1024 (both_true (leb 1 (length ls)) (leb (length ls) 1024) ok2.1).1 in
    let there : i ≤ length p.cells = can_there (desk_of cs ps) (put a i s ls) refl n.1 in
    let q : Paper = rewritten p (put a i s ls) in
    let room = both_true (leb (length q.cells) l.cells) (leb (length q.changes) l.changes) n.2 in
    let cells = leb-true (length q.cells) (get_or ps 0 0) room.0 in
    let changes = leb-true (length q.changes) (get_or ps 1 0) room.1 in
    let is = inserted_length p.cells ls i s (length p.changes) in
    let more = length-append p.changes (record { author = a; became = 0 } ∷ []) in
    let k = changes_counted cs ps in
    (there, few, ok2.0, omega (arith, is, cells), omega (arith, more, changes, k))

pub strike_allowed : (cs ps : List ℕ) (a i n : ℕ) → turned (limits_of ps) (desk_of cs ps) (strikes a i n) ≡ 0 →
    (i + n ≤ length (paper_of cs ps).cells) × (get_or ps 3 0 < get_or ps 1 0)
unfolding turned_by rewritten Can writes
strike_allowed cs ps a i n t =
    let l : Limits = limits_of ps in
    let p : Paper = paper_of cs ps in
    let h = not_turned l (desk_of cs ps) (strikes a i n) t in
    let there : i + n ≤ length p.cells = can_there (desk_of cs ps) (strikes a i n) refl h.1 in
    let q : Paper = rewritten p (strikes a i n) in
    let room = both_true (leb (length q.cells) l.cells) (leb (length q.changes) l.changes) h.2 in
    let changes = leb-true (length q.changes) (get_or ps 1 0) room.1 in
    let more = length-append p.changes (record { author = a; became = 0 } ∷ []) in
    let k = changes_counted cs ps in
    (there, omega (arith, more, changes, k))

pub style_allowed : (cs ps : List ℕ) (i n s : ℕ) → turned (limits_of ps) (desk_of cs ps) (styles i n s) ≡ 0 → i + n ≤ length (paper_of cs ps).cells
unfolding Can writes
style_allowed cs ps i n s t = can_there (desk_of cs ps) (styles i n s) refl (not_turned (limits_of ps) (desk_of cs ps) (styles i n s) t).1

pub accept_allowed : (cs ps : List ℕ) (c : ℕ) → turned (limits_of ps) (desk_of cs ps) (accepts c) ≡ 0 → c < get_or ps 3 0
unfolding Can writes
accept_allowed cs ps c t = let h = can_there (desk_of cs ps) (accepts c) refl (not_turned (limits_of ps) (desk_of cs ps) (accepts c) t).1 in omega (arith, h.0, changes_counted cs ps)

pub reject_allowed : (cs ps : List ℕ) (c : ℕ) → turned (limits_of ps) (desk_of cs ps) (rejects c) ≡ 0 → c < get_or ps 3 0
unfolding Can writes
reject_allowed cs ps c t = let h = can_there (desk_of cs ps) (rejects c) refl (not_turned (limits_of ps) (desk_of cs ps) (rejects c) t).1 in omega (arith, h.0, changes_counted cs ps)

-- the head of an entry counts one at least, and its letters, cells or marks stand inside
pub head_some : (e : Entry) → 1 ≤ (head_of e).count
unfolding head_of
head_some (was_put a i s ls) = omega arith
head_some (was_struck a i k old) = omega arith
head_some (was_accepted c ms) = omega arith
head_some (was_rejected c ms) = omega arith
head_some (was_styled i s old) = omega arith

either : (a b : Bool) {A : Type 0} → (a || b) ≡ true → (a ≡ true → A) → (b ≡ true → A) → A
either true b h f g = f refl
either false b h f g = g h

low_letter : (x : ℕ) → (eqb x 10 || (leb 32 x && leb x 126)) ≡ true → x < 256
low_letter x h =
    either (eqb x 10) (leb 32 x && leb x 126) h (λ e. let z = eqb-true x 10 e in omega arith) (λ e. let z = leb-true x 126 (both_true (leb 32 x) (leb x 126) e).1 in omega arith)

-- letters in range fit a byte
pub letter_low : (xs : List ℕ) (k : ℕ) → good_letters xs ≡ true → k < length xs → get_or xs k 0 < 256
unfolding good_letters
letter_low [] k h b = absurd (omega arith)
letter_low (x ∷ xs) zero h b = low_letter x (both_true (eqb x 10 || (leb 32 x && leb x 126)) (good_letters xs) h).0
letter_low (x ∷ xs) (suc k) h b = letter_low xs k (both_true (eqb x 10 || (leb 32 x && leb x 126)) (good_letters xs) h).1 (omega arith)

-- the letters that were copied are those of the put
pub copied : (us xs : List ℕ) (from n m : ℕ) → m ≡ n → from + n ≤ length us → take (length (take m (drop from us))) xs ≡ take m (drop from us) →
    take n xs ≡ take n (drop from us)
copied us xs from n m same inside is =
    let a = length-drop from us in
    let long : length (take n (drop from us)) ≡ n = length-take-le n (drop from us) (omega arith) in
    let here : take (length (take n (drop from us))) xs ≡ take n (drop from us) = rw same at is in
    rw long at here

-- A keeper that does what the contracts of open and call say: after a call that is done it has the canonical memory of what is left, and after one that
-- is turned away the memory that it had. It meets the contracts from any sound memory, also from one that is not canonical. Assumes nothing.
use Rattle.std.proofs.Common.{◌≡◌, ℕ, zero, suc, ◌+◌, ◌≤◌, true, eqb, List, [], ◌∷◌, ◌++◌, length, get_or, take, drop, sym, refl, ap, ◌∙◌, subst, arith}
use Rattle.std.proofs.lemmas.List.{append-nil, drop_all, drop_at, take_at, get_or-drop, get_or_append_left}
use Rattle.std.proofs.lemmas.Bool.{ne_eqb}
use Rattle.changes.proofs.Steps.{length_changes}
use Rattle.model.specs.Paper.{pick, Paper}
use Rattle.model.specs.Calls.{Call, put, strikes, accepts, rejects, styles, undo, redo, show, find, count, change, save, Answer, Desk, Limits, call_number, rewritten, writes, turned, after, answer, new_desk}
use Rattle.model.specs.Promise.{GoodLimits, readable, Memory, Keeper}
use Rattle.codec.specs.Bytes.{answer_bytes}
use Rattle.codec.specs.Reading.{Reading, call_is}
use Rattle.codec.proofs.ReadsBack.{reads_back}
use Rattle.history.specs.Entry.{Entry, call_of, entry_of, undo_of, redo_of}
use Rattle.history.specs.Steps.{past_of, future_of, desk_of, kept, StandsFor}
use Rattle.history.specs.Words.{entry_words, back_words, ahead_words}
use Rattle.history.proofs.Stepping.{opens, write_steps, undo_steps, redo_steps, undo_turned, redo_turned, turned_keeps, looking_keeps}
use Rattle.session.specs.Memory.{cells_words, pieces_words, undo_words, limits_of, paper_of, tables, Sound, Stands}
use Rattle.session.specs.Contract.{Beyond, Does, Done, Fit}
use Rattle.session.specs.Keeping.{Holds, Opens, Calls, SomeKeeper}
use Rattle.witness.proofs.Small.{Word, Small, small_append, small_front, small_rest, OfPaper, OfCall, rewritten_small, readable_small, row_small, text_small}
use Rattle.witness.proofs.Entries.{entry_of_small, kept_with, undo_small, call_small, back_in, ahead_in, log_read, log_small, no_entries}
use Rattle.witness.proofs.Canonical.{State, OfState, staged, cells_for, pieces_for, undo_for, memory_for, holds_for, stands_at, fit_for, empty, opened_cells_are, opened_pieces_are}

-- What is left after a call that is done.
abbrev written : Limits → State → Call → State
written l s c = record { paper = rewritten s.paper c; back = kept l.undos (entry_of s.paper c ∷ s.back); ahead = [] }

abbrev undone : State → List Entry → State
undone s [] = s
undone s (e ∷ back) = record { paper = undo_of e s.paper; back = back; ahead = e ∷ s.ahead }

abbrev redone : State → List Entry → State
redone s [] = s
redone s (e ∷ ahead) = record { paper = redo_of e s.paper; back = e ∷ s.back; ahead = ahead }

unfoldable step : Limits → State → Call → State
step l s (put a i t ls) = written l s (put a i t ls)
step l s (strikes a i n) = written l s (strikes a i n)
step l s (accepts c) = written l s (accepts c)
step l s (rejects c) = written l s (rejects c)
step l s (styles i n t) = written l s (styles i n t)
step l s undo = undone s s.back
step l s redo = redone s s.ahead
step l s (show k w r n) = s
step l s (find k i ls) = s
step l s (count k) = s
step l s (change c) = s
step l s (save i n) = s

-- a state stands for a desk
abbrev For : Limits → State → Desk → Type 0
For l s d = StandsFor l s.paper s.back s.ahead d

abbrev desk_at : State → Desk
desk_at s = desk_of s.paper s.back s.ahead

undone_for : (l : Limits) (p : Paper) (back ahead : List Entry) (d : Desk) → l.calls_can 5 ≡ true → StandsFor l p back ahead d → turned l d undo ≡ 0 →
    For l (undone (record { paper = p; back = back; ahead = ahead }) back) (after l d undo)
undone_for l p [] ahead d can st t = let seven : turned l d undo ≡ 7 = (undo_turned l p [] ahead d st can).0 in absurd (omega (arith, t, seven))
undone_for l p (e ∷ back) ahead d can st t = undo_steps l p e back ahead d st can

redone_for : (l : Limits) (p : Paper) (back ahead : List Entry) (d : Desk) → l.calls_can 6 ≡ true → StandsFor l p back ahead d → turned l d redo ≡ 0 →
    For l (redone (record { paper = p; back = back; ahead = ahead }) ahead) (after l d redo)
redone_for l p back [] d can st t = let seven : turned l d redo ≡ 7 = (redo_turned l p back [] d st can).0 in absurd (omega (arith, t, seven))
redone_for l p back (e ∷ ahead) d can st t = redo_steps l p e back ahead d st can

module _ (l : Limits) (s : State) (d : Desk) (can : (l.calls_can 5 ≡ true) × (l.calls_can 6 ≡ true)) (st : For l s d) where
  step_for : (c : Call) → turned l d c ≡ 0 → For l (step l s c) (after l d c)
  unfolding step writes call_number
  step_for (put a i t ls) h = write_steps l s.paper s.back s.ahead d (put a i t ls) st refl h
  step_for (strikes a i n) h = write_steps l s.paper s.back s.ahead d (strikes a i n) st refl h
  step_for (accepts c) h = write_steps l s.paper s.back s.ahead d (accepts c) st refl h
  step_for (rejects c) h = write_steps l s.paper s.back s.ahead d (rejects c) st refl h
  step_for (styles i n t) h = write_steps l s.paper s.back s.ahead d (styles i n t) st refl h
  step_for undo h = undone_for l s.paper s.back s.ahead d can.0 st h
  step_for redo h = redone_for l s.paper s.back s.ahead d can.1 st h
  step_for (show k w r n) h = looking_keeps l s.paper s.back s.ahead d (show k w r n) st (omega arith)
  step_for (find k i ls) h = looking_keeps l s.paper s.back s.ahead d (find k i ls) st (omega arith)
  step_for (count k) h = looking_keeps l s.paper s.back s.ahead d (count k) st (omega arith)
  step_for (change c) h = looking_keeps l s.paper s.back s.ahead d (change c) st (omega arith)
  step_for (save i n) h = looking_keeps l s.paper s.back s.ahead d (save i n) st (omega arith)

-- its words fit four bytes
undone_small : (p : Paper) (back ahead : List Entry) → OfPaper p → Small (back_words back) → Small (ahead_words ahead) →
    OfState (undone (record { paper = p; back = back; ahead = ahead }) back)
unfolding back_words ahead_words
undone_small p [] ahead h b a = record { paper = h; back = b; ahead = a }
undone_small p (e ∷ back) ahead h b a =
    let one : Small (entry_words e) = small_rest (back_words back) (entry_words e) b in
    record { paper = undo_small e p one h; back = small_front (back_words back) (entry_words e) b; ahead = small_append (entry_words e) (ahead_words ahead) one a }

redone_small : (p : Paper) (back ahead : List Entry) → Word (suc (length p.changes)) → OfPaper p → Small (back_words back) → Small (ahead_words ahead) →
    OfState (redone (record { paper = p; back = back; ahead = ahead }) ahead)
unfolding back_words ahead_words
redone_small p back [] mark h b a = record { paper = h; back = b; ahead = a }
redone_small p back (e ∷ ahead) mark h b a =
    let one : Small (entry_words e) = small_front (entry_words e) (ahead_words ahead) a in
    record {
      paper = rewritten_small p (call_of e) (call_small e one) mark h;
      back = small_append (back_words back) (entry_words e) b one;
      ahead = small_rest (entry_words e) (ahead_words ahead) a;
    }

module _ (l : Limits) (s : State) (few : length s.paper.cells ≤ 1000000) (low : l.undos ≤ 1000000) (mark : Word (suc (length s.paper.changes))) (h : OfState s) where
  written_small : (c : Call) → OfCall c → OfState (written l s c)
  unfolding ahead_words
  written_small c r =
      record {
        paper = rewritten_small s.paper c r mark h.paper;
        back = kept_with l.undos (entry_of s.paper c) s.back (λ room. entry_of_small s.paper c r h.paper few (omega arith)) h.back;
        ahead = λ i. omega arith;
      }

  step_small : (c : Call) → OfCall c → OfState (step l s c)
  unfolding step
  step_small (put a i t ls) r = written_small (put a i t ls) r
  step_small (strikes a i n) r = written_small (strikes a i n) r
  step_small (accepts c) r = written_small (accepts c) r
  step_small (rejects c) r = written_small (rejects c) r
  step_small (styles i n t) r = written_small (styles i n t) r
  step_small undo r = undone_small s.paper s.back s.ahead h.paper h.back h.ahead
  step_small redo r = redone_small s.paper s.back s.ahead mark h.paper h.back h.ahead
  step_small (show k w i n) r = h
  step_small (find k i ls) r = h
  step_small (count k) r = h
  step_small (change c) r = h
  step_small (save i n) r = h

-- the slices in one list of words
abbrev pieces_in : Memory → List ℕ
pieces_in m = take (pieces_words (get_or m.words 1 0)) m.words

abbrev past_pieces : Memory → List ℕ
past_pieces m = drop (pieces_words (get_or m.words 1 0)) m.words

abbrev cells_in : Memory → List ℕ
cells_in m = take (cells_words (get_or m.words 0 0)) (past_pieces m)

abbrev undo_in : Memory → List ℕ
undo_in m = drop (cells_words (get_or m.words 0 0)) (past_pieces m)

-- what they keep
abbrev state_in : List ℕ → List ℕ → List ℕ → State
state_in cs ps us = record { paper = paper_of cs ps; back = back_in us; ahead = ahead_in us }

abbrev next_in : List ℕ → List ℕ → List ℕ → Memory → Call → Memory
next_in cs ps us m c =
    pick (eqb (turned (limits_of ps) (desk_at (state_in cs ps us)) c) 0) (memory_for (limits_of ps) (step (limits_of ps) (state_in cs ps us) c)) m

abbrev says_in : List ℕ → List ℕ → List ℕ → Call → Answer
says_in cs ps us c = answer (limits_of ps) (desk_at (state_in cs ps us)) c

abbrev keeper : Keeper
keeper =
    record {
      opens = λ l. memory_for l empty;
      next = λ m c. next_in (cells_in m) (pieces_in m) (undo_in m) m c;
      says = λ m c. says_in (cells_in m) (pieces_in m) (undo_in m) c;
    }

slices : (m : Memory) (cs ps us : List ℕ) → Holds m cs ps us → (cells_in m ≡ cs) × (pieces_in m ≡ ps) × (undo_in m ≡ us)
slices m cs ps us holds =
    let w : m.words ≡ ps ++ (cs ++ us) = holds.words in
    let long : length ps ≡ pieces_words (get_or ps 1 0) = holds.pieces in
    let n : get_or m.words 0 0 ≡ get_or ps 0 0 = ap (λ (ws : List ℕ). get_or ws 0 0) w ∙ get_or_append_left ps (cs ++ us) 0 0 (omega arith) in
    let c : get_or m.words 1 0 ≡ get_or ps 1 0 = ap (λ (ws : List ℕ). get_or ws 1 0) w ∙ get_or_append_left ps (cs ++ us) 0 1 (omega arith) in
    let first : take (pieces_words (get_or ps 1 0)) (ps ++ (cs ++ us)) ≡ ps = take_at ps (cs ++ us) (pieces_words (get_or ps 1 0)) long in
    let rest : drop (pieces_words (get_or ps 1 0)) (ps ++ (cs ++ us)) ≡ cs ++ us = drop_at ps (cs ++ us) (pieces_words (get_or ps 1 0)) long in
    let second : take (cells_words (get_or ps 0 0)) (cs ++ us) ≡ cs = take_at cs us (cells_words (get_or ps 0 0)) holds.cells in
    let third : drop (cells_words (get_or ps 0 0)) (cs ++ us) ≡ us = drop_at cs us (cells_words (get_or ps 0 0)) holds.cells in
    (cc, cc, cc)

-- nothing is left past the end
past_end : (k : ℕ) (xs ys : List ℕ) → length xs ≡ k → length ys ≡ k → drop k xs ≡ drop k ys
past_end k xs ys a b = drop_all k xs (omega arith) ∙ sym (drop_all k ys (omega arith))

beyond : (l : Limits) (cs ps us cs' ps' us' : List ℕ) → length cs ≡ cells_words l.cells → length ps ≡ pieces_words l.changes → length us ≡ undo_words l.undos →
    length cs' ≡ cells_words l.cells → length ps' ≡ pieces_words l.changes → length us' ≡ undo_words l.undos → Beyond cs ps us cs' ps' us' l
beyond l cs ps us cs' ps' us' a b c a' b' c' =
    record {
      cells = past_end (cells_words l.cells) cs' cs a' a;
      pieces = past_end (pieces_words l.changes) ps' ps b' b;
      undo = past_end (undo_words l.undos) us' us c' c;
      cells_length = a' ∙ sym a;
      pieces_length = b' ∙ sym b;
      undo_length = c' ∙ sym c;
    }

-- the only desk that a state stands for
one_desk : (l : Limits) (s : State) (d : Desk) → For l s d → desk_at s ≡ d
one_desk l s d st = λ i. record { now = sym st.now i; past = sym st.past i; future = sym st.future i }

module _ (m : Memory) (cs ps us : List ℕ) (holds : Holds m cs ps us) (sound : Sound cs ps us) (fit : Fit cs ps us) where
  abbrev s : State
  s = state_in cs ps us

  abbrev l : Limits
  l = limits_of ps

  abbrev here : Desk
  here = desk_at s

  -- the entries are those that stand in the words, whoever names them
  for_read : (d : Desk) → Stands cs ps us d → For l s d
  for_read d st =
      let r = log_read us (get_or ps 2 0) st.sound.back st.sound.ahead st.sound.log in
      rw (r.0, r.1) st.desk

  held : Stands cs ps us here
  held =
      let r = log_read us (get_or ps 2 0) sound.back sound.ahead sound.log in
      record {
        sound = sound;
        desk = record {
          now = refl;
          past = ap (λ (es : List Entry). past_of es (paper_of cs ps)) r.0;
          future = ap (λ (es : List Entry). future_of es (paper_of cs ps)) r.1;
          sane = sound.sane;
        };
      }

  -- from the desk in memory to every desk that memory stands for
  calls_from : (c : Call) (m' : Memory) (cs' ps' us' : List ℕ) → readable c ≡ true → Holds m' cs' ps' us' → Fit cs' ps' us' →
      Done cs ps us here c cs' ps' us' (answer_bytes (says_in cs ps us c)) → Calls cs ps us c m' (says_in cs ps us c)
  calls_from c m' cs' ps' us' h holds' fit' done =
      let rs : List ℕ = answer_bytes (says_in cs ps us c) in
      let does : Does (call_is c) cs ps us cs' ps' us' rs = λ d st. subst (λ (x : Desk). Done cs ps us x c cs' ps' us' rs) (one_desk l s d (for_read d st)) done in
      let same : limits_of ps' ≡ l = done.limits in
      let a : length cs' ≡ cells_words l.cells = holds'.cells ∙ ap (λ (k : Limits). cells_words k.cells) same in
      let b : length ps' ≡ pieces_words l.changes = holds'.pieces ∙ ap (λ (k : Limits). pieces_words k.changes) same in
      let e : length us' ≡ undo_words l.undos = holds'.undo ∙ ap (λ (k : Limits). undo_words k.undos) same in
      record {
        cells = cs';
        pieces = ps';
        undo = us';
        holds = holds';
        called = record {
          does = subst (λ (r : Reading). Does r cs ps us cs' ps' us' rs) (sym (reads_back c h)) does;
          sound = done.stands.sound;
          limits = same;
          beyond = beyond l cs ps us cs' ps' us' holds.cells holds.pieces holds.undo a b e;
          fit = fit';
        };
      }

  small : OfState s
  small =
      let r = log_read us (get_or ps 2 0) sound.back sound.ahead sound.log in
      let w = log_small us (get_or ps 2 0) sound.back sound.ahead sound.log fit.2 in
      record {
        paper = record { cells = text_small cs (tables ps) fit.0 0 _; changes = row_small (drop 16 ps) (λ i. rw get_or-drop (fit.1 (16 + i))) 0 _ };
        back = subst (λ (es : List Entry). Small (back_words es)) (sym r.0) w.0;
        ahead = subst (λ (es : List Entry). Small (ahead_words es)) (sym r.1) w.1;
      }

  good : GoodLimits l
  good = (sound.held.few_cells, sound.held.few_changes, sound.held.few_undos)

  calls_at : (c : Call) → readable c ≡ true → (n : ℕ) → turned l here c ≡ n → Calls cs ps us c (pick (eqb n 0) (memory_for l (step l s c)) m) (says_in cs ps us c)
  calls_at c h zero t =
      let s' : State = step l s c in
      let desk : For l s' (after l here c) = step_for l s here (refl, refl) (for_read here held) c t in
      let long = length_changes (drop 16 ps) 0 (get_or ps 3 0) in
      let few : length (paper_of cs ps).cells ≤ 1000000 = omega (arith, sound.held.cells_fit, sound.held.few_cells) in
      let mark : Word (suc (length (paper_of cs ps).changes)) = omega (arith, long, sound.held.changes_fit, sound.held.few_changes) in
      let tiny : OfState s' = step_small l s few good.2 mark small c (readable_small c h) in
      calls_from c (memory_for l s') (cells_for l s'.paper) (pieces_for l s'.paper) (undo_for l s') h (holds_for l s' (after l here c) good desk)
      (fit_for l s' (after l here c) good desk tiny)
      (record { stands = stands_at l s' (after l here c) good desk; limits = refl; says = refl; kept = λ less. absurd (omega arith) })
  calls_at c h (suc n) t =
      let f = ne_eqb (suc n) 0 (λ z. omega arith) in
      let desk = turned_keeps l (paper_of cs ps) held.sound.back held.sound.ahead here c held.desk (omega arith) in
      rw f (calls_from c m cs ps us h holds fit (record { stands = record { sound = held.sound; desk = desk }; limits = refl; says = refl; kept = λ _. (refl, refl, refl) }))

-- a list that is just as long as asked for, as opening has it
exact : (k : ℕ) (xs ys : List ℕ) → xs ≡ ys → length xs ≡ k → xs ≡ ys ++ drop k xs
exact k xs ys e l = e ∙ sym (append-nil ys) ∙ ap (λ (zs : List ℕ). ys ++ zs) (sym (drop_all k xs (omega arith)))

opens_in : (l : Limits) → GoodLimits l → Opens l (memory_for l empty)
unfolding back_words ahead_words
opens_in l good =
    let desk : For (staged l) empty new_desk = opens (staged l) in
    let holds : Holds (memory_for l empty) (cells_for l empty.paper) (pieces_for l empty.paper) (undo_for l empty) = holds_for l empty new_desk good desk in
    record {
      cells = cells_for l empty.paper;
      pieces = pieces_for l empty.paper;
      undo = undo_for l empty;
      cells_before = cells_for l empty.paper;
      pieces_before = pieces_for l empty.paper;
      undo_before = undo_for l empty;
      holds = holds;
      opened = record {
        cells = exact (cells_words l.cells) (cells_for l empty.paper) _ (opened_cells_are l) holds.cells;
        pieces = exact (pieces_words l.changes) (pieces_for l empty.paper) _ (opened_pieces_are l good) holds.pieces;
        undo = exact (undo_words l.undos) (undo_for l empty) _ (no_entries l.undos) holds.undo;
        stands = stands_at l empty new_desk good desk;
        fit = fit_for l empty new_desk good desk (record { paper = record { cells = tt; changes = tt }; back = λ i. omega arith; ahead = λ i. omega arith });
      };
    }

pub some_keeper : SomeKeeper
some_keeper = (
  keeper,
  record {
    opens = opens_in;
    calls = λ m cs ps us c holds sound fit h.
        let s = slices m cs ps us holds in
        let a : cells_in m ≡ cs = s.0 in
        let b : pieces_in m ≡ ps = s.1 in
        let d : undo_in m ≡ us = s.2 in
        rw (a, b, d) (calls_at m cs ps us holds sound fit c h _ refl);
  },
)

-- Entries whose words fit four bytes: of a call, and what they make of a paper. The words of entries read back, and a log made of them. Assumes nothing.
use Rattle.std.proofs.Common.{◌≡◌, ℕ, zero, suc, ◌+◌, ◌-◌, ◌*◌, ◌≤◌, Bool, true, false, ◌||◌, eqb, leb, List, [], ◌∷◌, ◌++◌, length, get_or, take, drop, replicate, sym, refl, ap, ◌∙◌, subst, ap₂, arith}
use Rattle.std.specs.List.{AllByRecursion}
use Rattle.std.proofs.lemmas.List.{drop_at, drop-drop, take_at, length-append, length-replicate, replicate-append-replicate}
use Rattle.std.proofs.ByRecursion.{All-append, All-set, All-take, All-drop}
use Rattle.std.proofs.lemmas.Bool.{leb-true}
use Rattle.model.specs.Paper.{pick, Cell, Change, Paper, author_of, cells_written}
use Rattle.model.specs.Calls.{Call, put, strikes, accepts, rejects, styles, undo, redo, show, find, count, change, save}
use Rattle.model.proofs.Picks.{pick_both}
use Rattle.history.specs.Entry.{Mark, Entry, was_put, was_struck, was_accepted, was_rejected, was_styled, staying, marks_of, entry_of, call_of, much_of, counts, run_back, marks_back, undo_of}
use Rattle.history.specs.Steps.{all_count, kept}
use Rattle.history.specs.Words.{marks_written, head_words, payload_words, entry_size, entry_words, read_entry, back_words, ahead_words, Logged}
use Rattle.history.specs.Log.{start_of, cursor_of, end_of, Log}
use Rattle.history.proofs.Logging.{entry_long, log_back, log_ahead}
use Rattle.witness.proofs.Small.{Word, Small, small_append, small_zeros, small_front, small_rest, small_between, OfCell, OfPaper, OfCall, cells_small, became_small}

-- the entry of a call
five_small : (a b c d e : ℕ) → Word a → Word b → Word c → Word d → Word e → Small (a ∷ (b ∷ (c ∷ (d ∷ (e ∷ [])))))
five_small a b c d e v w x y z zero = v
five_small a b c d e v w x y z (suc zero) = w
five_small a b c d e v w x y z (suc (suc zero)) = x
five_small a b c d e v w x y z (suc (suc (suc zero))) = y
five_small a b c d e v w x y z (suc (suc (suc (suc zero)))) = z
five_small a b c d e v w x y z (suc (suc (suc (suc (suc i))))) = omega arith

staying_few : (xs : List Cell) (cs : List Change) (a : ℕ) → staying xs cs a ≤ length xs
unfolding staying
staying_few [] cs a = omega arith
staying_few (x ∷ xs) cs a =
    let few = staying_few xs cs a in
    pick_both (λ (n : ℕ). n + staying xs cs a ≤ suc (length xs)) (eqb (author_of cs x.put_in) (suc a)) 0 1 (omega arith) (omega arith)

mark_small : (m : Mark) (ms : List Mark) → Word m.place → OfCell m.cell → Small (marks_written ms) → Small (marks_written (m ∷ ms))
unfolding marks_written
mark_small m ms w x h zero = w
mark_small m ms w x h (suc zero) = x.0
mark_small m ms w x h (suc (suc zero)) = x.1
mark_small m ms w x h (suc (suc (suc zero))) = x.2
mark_small m ms w x h (suc (suc (suc (suc zero)))) = x.3
mark_small m ms w x h (suc (suc (suc (suc (suc i))))) = h i

no_words : Small []
no_words i = omega arith

marks_small : (xs : List Cell) (c i : ℕ) → Word (i + length xs) → AllByRecursion OfCell xs → Small (marks_written (marks_of xs c i))
unfolding marks_of marks_written
marks_small [] c i w h = no_words
marks_small (x ∷ xs) c i w h =
    let rest : Small (marks_written (marks_of xs c (suc i))) = marks_small xs c (suc i) (omega arith) h.1 in
    let one : Mark = record { place = i; cell = x } in
    pick_both (λ (ms : List Mark). Small (marks_written ms)) (eqb x.put_in (suc c) || eqb x.struck (suc c)) (one ∷ marks_of xs c (suc i)) (marks_of xs c (suc i))
    (mark_small one (marks_of xs c (suc i)) (omega arith) h.0 rest) rest

record OfEntry (e : Entry) : Type 0 where
  head : Small (head_words e)
  payload : Small (payload_words e)

of_none : OfEntry (was_styled 0 0 [])
unfolding head_words payload_words cells_written
of_none = record { head = five_small 4 0 0 0 0 (omega arith) (omega arith) (omega arith) (omega arith) (omega arith); payload = no_words }

of_entry : (p : Paper) (c : Call) → OfCall c → OfPaper p → Word (length p.cells) → Word (much_of (entry_of p c)) → OfEntry (entry_of p c)
unfolding entry_of much_of head_words payload_words
of_entry p (put a i s ls) r h few w = record { head = five_small _ _ _ _ _ (omega arith) r.0 r.1 w r.2; payload = r.3 }
of_entry p (strikes a i n) r h few w =
    let stay = staying_few (take n (drop i p.cells)) p.changes a in
    record {
      head = five_small _ _ _ _ _ (omega arith) r.0 r.1 (omega arith) (omega arith);
      payload = cells_small _ (All-take OfCell n _ (All-drop OfCell i _ h.cells));
    }
of_entry p (accepts c) r h few w =
    record { head = five_small _ _ _ _ _ (omega arith) r (omega arith) (omega arith) (omega arith); payload = marks_small p.cells c 0 (omega arith) h.cells }
of_entry p (rejects c) r h few w =
    record { head = five_small _ _ _ _ _ (omega arith) r (omega arith) (omega arith) (omega arith); payload = marks_small p.cells c 0 (omega arith) h.cells }
of_entry p (styles i n s) r h few w =
    record {
      head = five_small _ _ _ _ _ (omega arith) (omega arith) r.0 w r.1;
      payload = cells_small _ (All-take OfCell n _ (All-drop OfCell i _ h.cells));
    }
of_entry p undo r h few w = of_none
of_entry p redo r h few w = of_none
of_entry p (show k v i n) r h few w = of_none
of_entry p (find k i ls) r h few w = of_none
of_entry p (count k) r h few w = of_none
of_entry p (change c) r h few w = of_none
of_entry p (save i n) r h few w = of_none

entry_small : (e : Entry) → counts e ≤ 1000000 → OfEntry e → Small (entry_words e)
unfolding entry_words
entry_small e few h zero = omega (arith, (entry_long e).1)
entry_small e few h (suc zero) = omega arith
entry_small e few h (suc (suc i)) =
    small_append (head_words e) (payload_words e ++ (entry_size e ∷ [])) h.head (small_append (payload_words e) (entry_size e ∷ []) h.payload last) i
  where
    last : Small (entry_size e ∷ [])
    last zero = omega (arith, (entry_long e).1)
    last (suc i) = omega arith

-- the latest entries are kept
kept_small : (u : ℕ) (es : List Entry) → Small (back_words es) → Small (back_words (kept u es))
unfolding kept back_words
kept_small u [] h = h
kept_small u (e ∷ es) h =
    pick_both (λ (xs : List Entry). Small (back_words xs)) (leb (counts e) u) _ []
    (small_append (back_words (kept (u - counts e) es)) (entry_words e) (kept_small (u - counts e) es (small_front (back_words es) (entry_words e) h)) (small_rest (back_words es) (entry_words e) h))
    no_words

pub kept_with : (u : ℕ) (e : Entry) (es : List Entry) → (counts e ≤ u → Small (entry_words e)) → Small (back_words es) → Small (back_words (kept u (e ∷ es)))
unfolding kept back_words
kept_with u e es new h = at (leb (counts e) u) refl
  where
    at : (t : Bool) → leb (counts e) u ≡ t → Small (back_words (pick t (e ∷ kept (u - counts e) es) []))
    at true is = small_append (back_words (kept (u - counts e) es)) (entry_words e) (kept_small (u - counts e) es h) (new (leb-true (counts e) u is))
    at false is = no_words

pub entry_of_small : (p : Paper) (c : Call) → OfCall c → OfPaper p → length p.cells ≤ 1000000 → counts (entry_of p c) ≤ 1000000 → Small (entry_words (entry_of p c))
entry_of_small p c r h few most = entry_small (entry_of p c) most (of_entry p c r h (omega arith) (omega arith))

-- what an entry makes of a paper
payload_small : (e : Entry) → Small (entry_words e) → Small (payload_words e)
unfolding entry_words
payload_small e h = small_front (payload_words e) (entry_size e ∷ []) (small_rest (head_words e) (payload_words e ++ (entry_size e ∷ [])) (λ i. h (suc (suc i))))

old_small : (xs : List Cell) → Small (cells_written xs) → AllByRecursion OfCell xs
unfolding cells_written
old_small [] h = tt
old_small (x ∷ xs) h = ((h 0, h 1, h 2, h 3), old_small xs (λ i. h (suc (suc (suc (suc i))))))

run_small : (i k : ℕ) (old xs : List Cell) → AllByRecursion OfCell old → AllByRecursion OfCell xs → AllByRecursion OfCell (run_back i k old xs)
unfolding run_back
run_small i k old xs o h = All-append OfCell _ _ (All-take OfCell i xs h) (All-append OfCell old _ o (All-drop OfCell (i + k) xs h))

marks_back_small : (went : Cell → Bool) (ms : List Mark) (xs : List Cell) → Small (marks_written ms) → AllByRecursion OfCell xs → AllByRecursion OfCell (marks_back went ms xs)
unfolding marks_back marks_written
marks_back_small went [] xs w h = h
marks_back_small went (m ∷ ms) xs w h =
    let one : OfCell m.cell = (w 1, w 2, w 3, w 4) in
    marks_back_small went ms _ (λ i. w (suc (suc (suc (suc (suc i))))))
    (pick_both (AllByRecursion OfCell) (went m.cell) _ _ (All-append OfCell _ _ (All-take OfCell m.place xs h) (one, All-drop OfCell m.place xs h)) (All-set OfCell xs m.place m.cell one h))

undone_small : (e : Entry) (p : Paper) → Small (payload_words e) → OfPaper p → OfPaper (undo_of e p)
unfolding undo_of payload_words
undone_small (was_put a i s ls) p w h = record { cells = run_small i (length ls) [] _ tt h.cells; changes = All-take _ _ _ h.changes }
undone_small (was_struck a i k old) p w h = record { cells = run_small i k old _ (old_small old w) h.cells; changes = All-take _ _ _ h.changes }
undone_small (was_accepted c ms) p w h = record { cells = marks_back_small _ ms _ w h.cells; changes = became_small _ c 0 (omega arith) h.changes }
undone_small (was_rejected c ms) p w h = record { cells = marks_back_small _ ms _ w h.cells; changes = became_small _ c 0 (omega arith) h.changes }
undone_small (was_styled i s old) p w h = record { cells = run_small i (length old) old _ (old_small old w) h.cells; changes = h.changes }

pub undo_small : (e : Entry) (p : Paper) → Small (entry_words e) → OfPaper p → OfPaper (undo_of e p)
undo_small e p w h = undone_small e p (payload_small e w) h

pub call_small : (e : Entry) → Small (entry_words e) → OfCall (call_of e)
unfolding call_of entry_words head_words payload_words
call_small (was_put a i s ls) w = (w 3, w 4, w 6, payload_small (was_put a i s ls) w)
call_small (was_struck a i k old) w = (w 3, w 4)
call_small (was_accepted c ms) w = w 3
call_small (was_rejected c ms) w = w 3
call_small (was_styled i s old) w = (w 4, w 6)

-- n entries behind the place c, the latest first, and n entries from there on, by the sizes at both ends of each
unfoldable back_read : ℕ → List ℕ → ℕ → List Entry
back_read zero us c = []
back_read (suc n) us c = read_entry (drop (c - get_or us (c - 1) 0) us) ∷ back_read n us (c - get_or us (c - 1) 0)

unfoldable ahead_read : ℕ → List ℕ → ℕ → List Entry
ahead_read zero us c = []
ahead_read (suc n) us c = read_entry (drop c us) ∷ ahead_read n us (c + get_or us c 0)

pub back_in : List ℕ → List Entry
back_in us = back_read (get_or us 3 0) us (cursor_of us)

pub ahead_in : List ℕ → List Entry
ahead_in us = ahead_read (get_or us 4 0) us (cursor_of us)

back_is : (us : List ℕ) (s c t : ℕ) (back ahead : List Entry) → Logged us s c t back ahead → back_read (length back) us c ≡ back
unfolding back_read
back_is us s c t [] ahead h = refl
back_is us s c t (e ∷ back) ahead h =
    let x = log_back us s c t e back ahead h in
    let ih = back_is us s (c - entry_size e) t back (e ∷ ahead) x.3 in
    rw x.0 (ap₂ ◌∷◌ x.2.reads ih)

ahead_is : (us : List ℕ) (s c t : ℕ) (back ahead : List Entry) → Logged us s c t back ahead → ahead_read (length ahead) us c ≡ ahead
unfolding ahead_read
ahead_is us s c t back [] h = refl
ahead_is us s c t back (e ∷ ahead) h =
    let x = log_ahead us s c t e back ahead h in
    let ih = ahead_is us s (c + entry_size e) t (e ∷ back) ahead x.2 in
    rw x.1.size_word (ap₂ ◌∷◌ x.1.reads ih)

pub log_read : (us : List ℕ) (limit : ℕ) (back ahead : List Entry) → Log us limit back ahead → (back_in us ≡ back) × (ahead_in us ≡ ahead)
unfolding back_in ahead_in
log_read us limit back ahead log = (
  ap (λ (n : ℕ). back_read n us (cursor_of us)) log.many_back ∙ back_is us _ _ _ back ahead log.words,
  ap (λ (n : ℕ). ahead_read n us (cursor_of us)) log.many_ahead ∙ ahead_is us _ _ _ back ahead log.words,
)

pub log_small : (us : List ℕ) (limit : ℕ) (back ahead : List Entry) → Log us limit back ahead → Small us → Small (back_words back) × Small (ahead_words ahead)
log_small us limit back ahead log h = (
  subst Small log.words.behind (small_between us (start_of us) (cursor_of us) h),
  subst Small log.words.before (small_between us (cursor_of us) (end_of us) h),
)

-- how many words entries take
back_few : (es : List Entry) → (length (back_words es) ≤ 8 * all_count es) × (length es ≤ all_count es)
unfolding back_words all_count
back_few [] = omega arith
back_few (e ∷ es) = let ih = back_few es in let long = entry_long e in simp length-append (omega (arith, ih.0, ih.1, long.0, long.1))

ahead_few : (es : List Entry) → (length (ahead_words es) ≤ 8 * all_count es) × (length es ≤ all_count es)
unfolding ahead_words all_count
ahead_few [] = omega arith
ahead_few (e ∷ es) = let ih = ahead_few es in let long = entry_long e in simp length-append (omega (arith, ih.0, ih.1, long.0, long.1))

-- a log of entries: the head, the words of those behind the cursor and of those ahead, and zeros
abbrev log_head : List Entry → List Entry → List ℕ
log_head back ahead =
    0 ∷ (length (back_words back) ∷ ((length (back_words back) + length (ahead_words ahead)) ∷ (length back ∷ (length ahead ∷ (all_count back ∷ (all_count ahead ∷ replicate 9 0))))))

abbrev log_left : ℕ → List Entry → List Entry → List ℕ
log_left limit back ahead = replicate (16 * limit - (length (back_words back) + length (ahead_words ahead))) 0

abbrev pub log_for : ℕ → List Entry → List Entry → List ℕ
log_for limit back ahead = log_head back ahead ++ (back_words back ++ (ahead_words ahead ++ log_left limit back ahead))

pub no_entries : (limit : ℕ) → log_for limit [] [] ≡ replicate (16 + 16 * limit) 0
unfolding back_words ahead_words all_count
no_entries limit =
    let e : 16 * limit - (0 + 0) ≡ 16 * limit = omega arith in
    ap (λ (k : ℕ). replicate {A = ℕ} 16 0 ++ replicate k 0) e ∙ replicate-append-replicate 16 (16 * limit) 0

module _ (limit : ℕ) (back ahead : List Entry) (low : limit ≤ 1000000) (within : all_count back + all_count ahead ≤ limit) where
  pub length_log : length (log_for limit back ahead) ≡ 16 + 16 * limit
  length_log =
      let b = back_few back in
      let a = ahead_few ahead in
      let x = length-append (back_words back) (ahead_words ahead ++ log_left limit back ahead) in
      let y = length-append (ahead_words ahead) (log_left limit back ahead) in
      let z = length-replicate {A = ℕ} (16 * limit - (length (back_words back) + length (ahead_words ahead))) 0 in
      omega arith

  pub is_log : Log (log_for limit back ahead) limit back ahead
  is_log =
      let b = back_few back in
      let a = ahead_few ahead in
      let us : List ℕ = log_for limit back ahead in
      let n : ℕ = length (back_words back) in
      let m : ℕ = length (ahead_words ahead) in
      let long = length_log in
      let i : 16 + n - 16 ≡ n = omega arith in
      let j : 16 + (n + m) - (16 + n) ≡ m = omega arith in
      let rest : drop (16 + n) us ≡ ahead_words ahead ++ log_left limit back ahead =
      sym (drop-drop n 16 us) ∙ drop_at (back_words back) (ahead_words ahead ++ log_left limit back ahead) n refl in
      record {
        words = record {
          behind = ap (λ (k : ℕ). take k (drop 16 us)) i ∙ take_at (back_words back) (ahead_words ahead ++ log_left limit back ahead) n refl;
          before = ap₂ (λ (k : ℕ) (ws : List ℕ). take k ws) j rest ∙ take_at (ahead_words ahead) (log_left limit back ahead) m refl;
          begun = omega arith;
          ended = omega arith;
          inside = omega arith;
        };
        room = omega arith;
        many_back = refl;
        many_ahead = refl;
        done = refl;
        undone = refl;
        within = within;
        low = low;
        long = omega arith;
      }

  pub log_for_small : Small (back_words back) → Small (ahead_words ahead) → Small (log_for limit back ahead)
  log_for_small b a =
      small_append (log_head back ahead) (back_words back ++ (ahead_words ahead ++ log_left limit back ahead)) head
      (small_append (back_words back) (ahead_words ahead ++ log_left limit back ahead) b (small_append (ahead_words ahead) (log_left limit back ahead) a (small_zeros _)))
    where
      head : Small (log_head back ahead)
      head zero = omega arith
      head (suc zero) = let n = back_few back in omega arith
      head (suc (suc zero)) = let n = back_few back in let m = ahead_few ahead in omega arith
      head (suc (suc (suc zero))) = let n = back_few back in omega arith
      head (suc (suc (suc (suc zero)))) = let m = ahead_few ahead in omega arith
      head (suc (suc (suc (suc (suc zero))))) = omega arith
      head (suc (suc (suc (suc (suc (suc zero)))))) = omega arith
      head (suc (suc (suc (suc (suc (suc (suc i))))))) = small_zeros 9 i

-- That entries are read back from their words, and how a log of them is stepped over.
use Rattle.std.proofs.Common.{◌≡◌, ℕ, suc, ◌+◌, ◌-◌, ◌*◌, ◌<◌, ◌≤◌, List, [], ◌∷◌, ◌++◌, length, get_or, take, drop, sym, refl, ap, ◌∙◌, subst, arith, take-add}
use Rattle.std.specs.List.{between}
use Rattle.std.proofs.lemmas.List.{append_assoc, append-nil, length-append, take-append-drop, take_at, take-take, drop_at, drop-drop, get_or_push}
use Rattle.std.proofs.lemmas.List.Edits.{length-between, get_or-between, between_none}
use Rattle.std.proofs.lemmas.Slice.{between_is}
use Rattle.model.specs.Paper.{Cell, cells_written}
use Rattle.history.specs.Entry.{Mark, Entry, was_put, was_struck, was_accepted, was_rejected, was_styled, much_of, counts}
use Rattle.history.specs.Steps.{all_count}
use Rattle.history.specs.Words.{marks_written, head_words, payload_words, entry_size, entry_words, cells_read, marks_read, read_entry, back_words, ahead_words, Logged, EntryAt, ReadsBack, OneEntry, EntryLong, LogLong, OneLog, LogBack, LogAhead, LogForgets, LogDrops, LogPushes, LogMoves}

less_one : (n : ℕ) → suc n - 1 ≡ n
less_one n = omega arith

-- what is read from the payload, whatever comes after it
cells_read_back : (xs : List Cell) (rest : List ℕ) → cells_read (length xs) (cells_written xs ++ rest) ≡ xs
unfolding cells_read cells_written
cells_read_back [] rest = refl
cells_read_back (x ∷ xs) rest = ap (λ ys. x ∷ ys) (cells_read_back xs rest)

marks_read_back : (ms : List Mark) (rest : List ℕ) → marks_read (length ms) (marks_written ms ++ rest) ≡ ms
unfolding marks_read marks_written
marks_read_back [] rest = refl
marks_read_back (m ∷ ms) rest = ap (λ ns. m ∷ ns) (marks_read_back ms rest)

cells_there : (xs : List Cell) (tail rest : List ℕ) → cells_read (suc (length xs) - 1) ((cells_written xs ++ tail) ++ rest) ≡ xs
cells_there xs tail rest = rw (less_one (length xs), append_assoc (cells_written xs) tail rest) (cells_read_back xs (tail ++ rest))

marks_there : (ms : List Mark) (tail rest : List ℕ) → marks_read (suc (length ms) - 1) ((marks_written ms ++ tail) ++ rest) ≡ ms
marks_there ms tail rest = rw (less_one (length ms), append_assoc (marks_written ms) tail rest) (marks_read_back ms (tail ++ rest))

letters_there : (ls tail rest : List ℕ) → take (suc (length ls) - 1) ((ls ++ tail) ++ rest) ≡ ls
letters_there ls tail rest = rw (less_one (length ls), append_assoc ls tail rest) (take_at ls (tail ++ rest) (length ls) refl)

pub reads_back : ReadsBack
unfolding entry_words head_words payload_words read_entry much_of
reads_back (was_put a i s ls) rest = ap (was_put a i s) (letters_there ls _ rest)
reads_back (was_struck a i k old) rest = ap (was_struck a i k) (cells_there old _ rest)
reads_back (was_accepted c ms) rest = ap (was_accepted c) (marks_there ms _ rest)
reads_back (was_rejected c ms) rest = ap (was_rejected c) (marks_there ms _ rest)
reads_back (was_styled i s old) rest = ap (was_styled i s) (cells_there old _ rest)

pub one_entry : OneEntry
one_entry e f h = sym (reads_back e []) ∙ ap (λ ws. read_entry (ws ++ [])) h ∙ reads_back f []

-- Lengths.
pub length_cells_written : (xs : List Cell) → length (cells_written xs) ≡ 4 * length xs
unfolding cells_written
length_cells_written [] = refl
length_cells_written (x ∷ xs) = omega (arith, length_cells_written xs)

pub length_marks_written : (ms : List Mark) → length (marks_written ms) ≡ 5 * length ms
unfolding marks_written
length_marks_written [] = refl
length_marks_written (m ∷ ms) = omega (arith, length_marks_written ms)

pub length_payload : (e : Entry) → length (payload_words e) ≤ 5 * much_of e
unfolding payload_words much_of
length_payload (was_put a i s ls) = omega arith
length_payload (was_struck a i k old) = omega (arith, length_cells_written old)
length_payload (was_accepted c ms) = omega (arith, length_marks_written ms)
length_payload (was_rejected c ms) = omega (arith, length_marks_written ms)
length_payload (was_styled i s old) = omega (arith, length_cells_written old)

length_head : (e : Entry) → length (head_words e) ≡ 5
unfolding head_words
length_head (was_put a i s ls) = refl
length_head (was_struck a i k old) = refl
length_head (was_accepted c ms) = refl
length_head (was_rejected c ms) = refl
length_head (was_styled i s old) = refl

pub length_entry : (e : Entry) → length (entry_words e) ≡ entry_size e
unfolding entry_words
length_entry e = simp (length-append, length_head e) (omega arith)

pub entry_long : EntryLong
entry_long e = (length_entry e, omega (arith, length_payload e))

-- the first, the second and the last word of an entry
entry_first : (e : Entry) → get_or (entry_words e) 0 0 ≡ entry_size e
unfolding entry_words
entry_first e = refl

entry_second : (e : Entry) → get_or (entry_words e) 1 0 ≡ counts e
unfolding entry_words
entry_second e = refl

entry_last : (e : Entry) → get_or (entry_words e) (entry_size e - 1) 0 ≡ entry_size e
unfolding entry_words
entry_last e =
    let front : List ℕ = entry_size e ∷ (counts e ∷ (head_words e ++ payload_words e)) in
    let n : length front ≡ entry_size e - 1 = simp (length-append, length_head e) (omega arith) in
    let same : entry_words e ≡ front ++ (entry_size e ∷ []) = ap (λ ws. entry_size e ∷ (counts e ∷ ws)) (sym (append_assoc (head_words e) (payload_words e) (entry_size e ∷ []))) in
    ap (λ ws. get_or ws (entry_size e - 1) 0) same ∙ get_or_push front (entry_size e) 0 (entry_size e - 1) n

-- Parts of a list of words, from one place to another.
pub between_join : (ws : List ℕ) (i j k : ℕ) → i ≤ j → j ≤ k → between i k ws ≡ between i j ws ++ between j k ws
between_join ws i j k a b =
    let n : k - i ≡ (j - i) + (k - j) = omega arith in
    let m : i + (j - i) ≡ j = omega arith in
    ap (λ x. take x (drop i ws)) n ∙ take-add (j - i) (k - j) (drop i ws)
    ∙ ap (λ ys. between i j ws ++ take (k - j) ys) (drop-drop (j - i) i ws ∙ ap (λ x. drop x ws) m)

-- a part of what stayed
pub between_below : (u new : List ℕ) (n i j : ℕ) → j ≤ n → take n new ≡ take n u → between i j new ≡ between i j u
between_below u new n i j b h =
    let t : take j new ≡ take j u = sym (take-take j n new b) ∙ ap (take j) h ∙ take-take j n u b in
    between_is new i j ∙ ap (drop i) t ∙ sym (between_is u i j)

-- a part that is one list after another falls into these two
record Falls (ws : List ℕ) (i j k : ℕ) (xs ys : List ℕ) : Type 0 where
  first : between i j ws ≡ xs
  second : between j k ws ≡ ys
  reach : j ≤ k

falls : (ws : List ℕ) (i j k : ℕ) (xs ys : List ℕ) → i ≤ k → k ≤ length ws → between i k ws ≡ xs ++ ys → j ≡ i + length xs → Falls ws i j k xs ys
falls ws i j k xs ys a b h e =
    let all : length xs + length ys ≡ k - i = sym (length-append xs ys) ∙ ap length (sym h) ∙ length-between ws i k b in
    let ij : i ≤ j = omega arith in
    let jk : j ≤ k = omega arith in
    let n : length (between i j ws) ≡ length xs = length-between ws i j (omega arith) ∙ omega arith in
    let joined : between i j ws ++ between j k ws ≡ xs ++ ys = sym (between_join ws i j k ij jk) ∙ h in
    record {
      first = sym (take_at (between i j ws) (between j k ws) (length xs) n) ∙ ap (take (length xs)) joined ∙ take_at xs ys (length xs) refl;
      second = sym (drop_at (between i j ws) (between j k ws) (length xs) n) ∙ ap (drop (length xs)) joined ∙ drop_at xs ys (length xs) refl;
      reach = jk;
    }

-- an entry that stands in words
pub there : (ws : List ℕ) (a : ℕ) (e : Entry) → between a (a + entry_size e) ws ≡ entry_words e → EntryAt ws a e
there ws a e h =
    let at : (k : ℕ) → k < entry_size e → get_or ws (a + k) 0 ≡ get_or (entry_words e) k 0 =
    λ k b. sym (get_or-between ws a (a + entry_size e) k 0 (omega arith)) ∙ ap (λ xs. get_or xs k 0) h in
    let z : a ≡ a + 0 = omega arith in
    let y : a + entry_size e - 1 ≡ a + (entry_size e - 1) = omega arith in
    let n : entry_size e ≡ a + entry_size e - a = omega arith in
    let split : drop a ws ≡ entry_words e ++ drop (entry_size e) (drop a ws) =
    sym (take-append-drop (entry_size e) (drop a ws)) ∙ ap (λ xs. xs ++ drop (entry_size e) (drop a ws)) (ap (λ x. take x (drop a ws)) n ∙ h) in
    record {
      words = h;
      size_word = ap (λ x. get_or ws x 0) z ∙ at 0 (omega arith) ∙ entry_first e;
      count_word = at 1 (omega arith) ∙ entry_second e;
      last_word = ap (λ x. get_or ws x 0) y ∙ at (entry_size e - 1) (omega arith) ∙ entry_last e;
      reads = ap read_entry split ∙ reads_back e _;
    }

-- The steps of a log.
pub log_back : LogBack
unfolding back_words ahead_words
log_back ws s c t e back ahead h =
    let j : ℕ = c - entry_size e in
    let all : length (back_words back) + length (entry_words e) ≡ c - s =
    sym (length-append (back_words back) (entry_words e)) ∙ ap length (sym h.behind) ∙ length-between ws s c (omega arith) in
    let le : length (entry_words e) ≡ entry_size e = length_entry e in
    let f : Falls ws s j c (back_words back) (entry_words e) = falls ws s j c (back_words back) (entry_words e) h.begun (omega arith) h.behind (omega arith) in
    let back_at : j + entry_size e ≡ c = omega arith in
    let th : EntryAt ws j e = there ws j e (ap (λ x. between j x ws) back_at ∙ f.second) in
    let before : between j t ws ≡ entry_words e ++ ahead_words ahead =
    between_join ws j c t f.reach h.ended ∙ ap (λ xs. xs ++ between c t ws) f.second ∙ ap (λ xs. entry_words e ++ xs) h.before in (
      ap (λ x. get_or ws (x - 1) 0) (sym back_at) ∙ th.last_word,
      omega arith,
      th,
      record { behind = f.first; before = before; begun = omega arith; ended = omega arith; inside = h.inside },
    )

pub log_ahead : LogAhead
unfolding back_words ahead_words
log_ahead ws s c t e back ahead h =
    let j : ℕ = c + entry_size e in
    let le : length (entry_words e) ≡ entry_size e = length_entry e in
    let f : Falls ws c j t (entry_words e) (ahead_words ahead) = falls ws c j t (entry_words e) (ahead_words ahead) h.ended h.inside h.before (omega arith) in
    let th : EntryAt ws c e = there ws c e f.first in
    let behind : between s j ws ≡ back_words back ++ entry_words e =
    between_join ws s c j h.begun (omega arith) ∙ ap (λ xs. xs ++ between c j ws) h.behind ∙ ap (λ xs. back_words back ++ xs) f.first in
    (f.reach, th, record { behind = behind; before = f.second; begun = omega arith; ended = f.reach; inside = h.inside })

-- the oldest entry's words come first
oldest_first : (back : List Entry) (e : Entry) → back_words (back ++ (e ∷ [])) ≡ entry_words e ++ back_words back
unfolding back_words
oldest_first [] e = sym (append-nil (entry_words e))
oldest_first (x ∷ back) e = ap (λ ws. ws ++ entry_words x) (oldest_first back e) ∙ append_assoc (entry_words e) (back_words back) (entry_words x)

pub log_forgets : LogForgets
log_forgets ws s c t e back ahead h =
    let j : ℕ = s + entry_size e in
    let le : length (entry_words e) ≡ entry_size e = length_entry e in
    let f : Falls ws s j c (entry_words e) (back_words back) =
    falls ws s j c (entry_words e) (back_words back) h.begun (omega arith) (h.behind ∙ oldest_first back e) (omega arith) in
    let th : EntryAt ws s e = there ws s e f.first in
    (f.reach, th, record { behind = f.second; before = h.before; begun = f.reach; ended = h.ended; inside = h.inside })

pub log_drops : LogDrops
unfolding ahead_words
log_drops ws s c t back ahead h = record { behind = h.behind; before = between_none ws c; begun = h.begun; ended = omega arith; inside = omega arith }

pub log_pushes : LogPushes
unfolding back_words ahead_words
log_pushes ws new s c e back h same words room =
    let j : ℕ = c + entry_size e in
    let old : between s c new ≡ back_words back = between_below ws new c s c (omega arith) same ∙ h.behind in
    let behind : between s j new ≡ back_words back ++ entry_words e =
    between_join new s c j h.begun (omega arith) ∙ ap (λ xs. xs ++ between c j new) old ∙ ap (λ xs. back_words back ++ xs) words in
    record { behind = behind; before = between_none new j; begun = omega arith; ended = omega arith; inside = room }

-- moved so that it starts at p
pub log_moves_to :
    (ws new : List ℕ) (s c t p i j : ℕ) (back ahead : List Entry) → Logged ws s c t back ahead → i ≡ p + (c - s) → j ≡ p + (t - s) →
    between p j new ≡ between s t ws → j ≤ length new → Logged new p i j back ahead
log_moves_to ws new s c t p i j back ahead h at_i at_j same room =
    let whole : between p j new ≡ back_words back ++ ahead_words ahead =
    same ∙ between_join ws s c t h.begun h.ended ∙ ap (λ xs. xs ++ between c t ws) h.behind ∙ ap (λ xs. back_words back ++ xs) h.before in
    let n : length (back_words back) ≡ c - s = ap length (sym h.behind) ∙ length-between ws s c (omega arith) in
    let f : Falls new p i j (back_words back) (ahead_words ahead) = falls new p i j (back_words back) (ahead_words ahead) (omega arith) room whole (omega arith) in
    record { behind = f.first; before = f.second; begun = omega arith; ended = f.reach; inside = room }

pub log_moves : LogMoves
log_moves ws new s c t back ahead h same room = log_moves_to ws new s c t 0 (c - s) (t - s) back ahead h (omega arith) (omega arith) same room

-- how many words entries take
back_long : (es : List Entry) → (length (back_words es) ≤ 8 * all_count es) × (8 * length es ≤ length (back_words es))
unfolding back_words all_count
back_long [] = omega arith
back_long (e ∷ es) =
    let ih = back_long es in
    simp length-append (omega (arith, ih.0, ih.1, length_entry e, length_payload e))

ahead_long : (es : List Entry) → (length (ahead_words es) ≤ 8 * all_count es) × (8 * length es ≤ length (ahead_words es))
unfolding ahead_words all_count
ahead_long [] = omega arith
ahead_long (e ∷ es) =
    let ih = ahead_long es in
    simp length-append (omega (arith, ih.0, ih.1, length_entry e, length_payload e))

pub log_long : LogLong
log_long ws s c t back ahead h =
    let n : length (back_words back) ≡ c - s = ap length (sym h.behind) ∙ length-between ws s c (omega arith) in
    let m : length (ahead_words ahead) ≡ t - c = ap length (sym h.before) ∙ length-between ws c t h.inside in
    let b = back_long back in
    let a = ahead_long ahead in
    omega arith

-- one log, from the words alone
none_behind : (ws : List ℕ) (s c t : ℕ) (e : Entry) (back ahead ahead' : List Entry) → Logged ws s c t [] ahead → Logged ws s c t (e ∷ back) ahead' → ⊥
unfolding all_count
none_behind ws s c t e back ahead ahead' h k =
    let x = log_long ws s c t [] ahead h in
    let y = log_long ws s c t (e ∷ back) ahead' k in
    omega arith

none_ahead : (ws : List ℕ) (s c t : ℕ) (e : Entry) (back back' ahead : List Entry) → Logged ws s c t back [] → Logged ws s c t back' (e ∷ ahead) → ⊥
unfolding all_count
none_ahead ws s c t e back back' ahead h k =
    let x = log_long ws s c t back [] h in
    let y = log_long ws s c t back' (e ∷ ahead) k in
    omega arith

one_behind : (back back' ahead ahead' : List Entry) (ws : List ℕ) (s c t : ℕ) → Logged ws s c t back ahead → Logged ws s c t back' ahead' → back ≡ back'
one_behind [] [] ahead ahead' ws s c t h k = refl
one_behind [] (f ∷ back') ahead ahead' ws s c t h k = absurd (none_behind ws s c t f back' ahead ahead' h k)
one_behind (e ∷ back) [] ahead ahead' ws s c t h k = absurd (none_behind ws s c t e back ahead' ahead k h)
one_behind (e ∷ back) (f ∷ back') ahead ahead' ws s c t h k =
    let x = log_back ws s c t e back ahead h in
    let y = log_back ws s c t f back' ahead' k in
    let at : c - entry_size f ≡ c - entry_size e = ap (λ m. c - m) (sym y.0 ∙ x.0) in
    let same : e ≡ f = sym x.2.reads ∙ ap (λ m. read_entry (drop m ws)) (sym at) ∙ y.2.reads in
    let k' : Logged ws s (c - entry_size e) t back' (f ∷ ahead') = subst (λ m. Logged ws s m t back' (f ∷ ahead')) at y.3 in
    let ih : back ≡ back' = one_behind back back' (e ∷ ahead) (f ∷ ahead') ws s (c - entry_size e) t x.3 k' in
    cc

one_ahead : (ahead ahead' back back' : List Entry) (ws : List ℕ) (s c t : ℕ) → Logged ws s c t back ahead → Logged ws s c t back' ahead' → ahead ≡ ahead'
one_ahead [] [] back back' ws s c t h k = refl
one_ahead [] (f ∷ ahead') back back' ws s c t h k = absurd (none_ahead ws s c t f back back' ahead' h k)
one_ahead (e ∷ ahead) [] back back' ws s c t h k = absurd (none_ahead ws s c t e back' back ahead k h)
one_ahead (e ∷ ahead) (f ∷ ahead') back back' ws s c t h k =
    let x = log_ahead ws s c t e back ahead h in
    let y = log_ahead ws s c t f back' ahead' k in
    let same : e ≡ f = sym x.1.reads ∙ y.1.reads in
    let k' : Logged ws s (c + entry_size e) t (f ∷ back') ahead' = subst (λ m. Logged ws s (c + m) t (f ∷ back') ahead') (sym y.1.size_word ∙ x.1.size_word) y.2 in
    let ih : ahead ≡ ahead' = one_ahead ahead ahead' (e ∷ back) (f ∷ back') ws s (c + entry_size e) t x.2 k' in
    cc

pub one_log : OneLog
one_log ws s c t back ahead back' ahead' h k = (one_behind back back' ahead ahead' ws s c t h k, one_ahead ahead ahead' back back' ws s c t h k)

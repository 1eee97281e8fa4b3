-- How the words and the numbers of a log follow what its functions do.
use Rattle.std.proofs.Common.{◌≡◌, ℕ, ◌+◌, ◌-◌, ◌*◌, ◌<◌, ◌≤◌, List, [], ◌∷◌, ◌++◌, length, get_or, take, drop, replicate, sym, refl, ap, ◌∙◌, subst, arith}
use Rattle.std.specs.List.{between}
use Rattle.std.proofs.lemmas.List.{append_assoc, length-append, drop-drop, length-take-le, length-drop, take_at, drop_at, get_or_append_left, get_or-replicate, length-replicate, get_or-take}
use Rattle.std.proofs.lemmas.List.Edits.{between_none}
use lib.Seq.{paste}
use Rattle.history.specs.Entry.{Entry, counts}
use Rattle.history.specs.Steps.{all_count, kept}
use Rattle.history.specs.Words.{back_words, ahead_words, entry_size, entry_words, Logged, EntryAt}
use Rattle.history.specs.Log.{start_of, cursor_of, end_of, Log, Keeps, SomeLog, Headed, Stepped, StepsBack, StepsAhead, Inside, Drops, ForgetsOldest, Forgets, Stays, Room, Roomed, Emptied, CanPush, Pushes, WrittenKeeps, WrittenKeepsRoom, RoomPushes}
use Rattle.history.specs.declared.log.State.{State}
use Rattle.history.proofs.Logging.{log_back, log_ahead, log_forgets, log_drops, log_pushes, log_moves_to, log_long, entry_long, between_below, there}
use Rattle.history.proofs.Stepping.{oldest, all_count_push, kept_within, kept_all, kept_forgets}

-- Words from place k on that stayed as they were keep what stands there.
pub from_on : (u new : List ℕ) (k i : ℕ) → k ≤ i → drop k new ≡ drop k u → drop i new ≡ drop i u
from_on u new k i b h =
    let m : k + (i - k) ≡ i = omega arith in
    ap (λ x. drop x new) (sym m) ∙ sym (drop-drop (i - k) k new) ∙ ap (drop (i - k)) h ∙ drop-drop (i - k) k u ∙ ap (λ x. drop x u) m

logged_kept :
    (u new : List ℕ) (k s c t : ℕ) (back ahead : List Entry) → Logged u s c t back ahead → k ≤ s → drop k new ≡ drop k u → length new ≡ length u →
    Logged new s c t back ahead
logged_kept u new k s c t back ahead h b same n =
    record {
      behind = ap (take (c - s)) (from_on u new k s b same) ∙ h.behind;
      before = ap (take (t - c)) (from_on u new k c (omega arith) same) ∙ h.before;
      begun = h.begun;
      ended = h.ended;
      inside = omega arith;
    }

-- a log at other terms for the same places
logged_at :
    (u : List ℕ) (s c t s' c' t' : ℕ) (back ahead : List Entry) → Logged u s c t back ahead → s ≡ s' → c ≡ c' → t ≡ t' → Logged u s' c' t' back ahead
logged_at u s c t s' c' t' back ahead h es ec et =
    subst (λ x. Logged u s' c' x back ahead) et (subst (λ x. Logged u s' x t back ahead) ec (subst (λ x. Logged u x c t back ahead) es h))

-- after only the head was written
logged_new :
    (u new : List ℕ) (s c t : ℕ) (back ahead : List Entry) → Logged u (16 + s) (16 + c) (16 + t) back ahead → drop 7 new ≡ drop 7 u → length new ≡ length u →
    get_or new 0 0 ≡ s → get_or new 1 0 ≡ c → get_or new 2 0 ≡ t → Logged new (start_of new) (cursor_of new) (end_of new) back ahead
logged_new u new s c t back ahead h same n es ec et =
    logged_at new (16 + s) (16 + c) (16 + t) (start_of new) (cursor_of new) (end_of new) back ahead
    (logged_kept u new 7 (16 + s) (16 + c) (16 + t) back ahead h (omega arith) same n) (omega arith) (omega arith) (omega arith)

logged_now : (u : List ℕ) (s : State) (limit : ℕ) (back ahead : List Entry) → Log u limit back ahead → Headed u s → Logged u (16 + s.start) (16 + s.cursor) (16 + s.end) back ahead
logged_now u s limit back ahead h k =
    logged_at u (start_of u) (cursor_of u) (end_of u) (16 + s.start) (16 + s.cursor) (16 + s.end) back ahead h.words (omega arith) (omega arith) (omega arith)

-- an entry in words that stayed
entry_kept : (u new : List ℕ) (k a : ℕ) (e : Entry) → k ≤ a → drop k new ≡ drop k u → EntryAt u a e → EntryAt new a e
entry_kept u new k a e b same h = there new a e (ap (take (a + entry_size e - a)) (from_on u new k a b same) ∙ h.words)

inside_at : (u new : List ℕ) (limit : ℕ) (back ahead : List Entry) (a : ℕ) (e : Entry) → Stepped u new limit back ahead a e → Inside new a
inside_at u new limit back ahead a e h =
    let n : get_or new a 0 ≡ entry_size e = h.stands.size_word in
    let m : get_or new (a + 1) 0 ≡ counts e = h.stands.count_word in
    record { size = omega arith; end = omega (arith, h.inside); count = omega arith }

-- One step back: the latest entry behind the cursor.
abbrev back_size : List ℕ → State → ℕ
back_size u s = get_or u (15 + s.cursor) 0

abbrev pub back_at : List ℕ → State → ℕ
back_at u s = 16 + (s.cursor - back_size u s)

abbrev back_count : List ℕ → State → ℕ
back_count u s = get_or u (back_at u s + 1) 0

abbrev pub back_state : List ℕ → State → State
back_state u s =
    record {
      start = s.start;
      cursor = s.cursor - back_size u s;
      end = s.end;
      behind = s.behind - 1;
      ahead = s.ahead + 1;
      done = s.done - back_count u s;
      undone = s.undone + back_count u s;
    }

record BackEntry (u : List ℕ) (s : State) (e : Entry) (back ahead : List Entry) : Type 0 where
  size : back_size u s ≡ entry_size e
  fits : s.start + entry_size e ≤ s.cursor
  at : EntryAt u (back_at u s) e
  moved : Logged u (16 + s.start) (back_at u s) (16 + s.end) back (e ∷ ahead)

back_entry : (u : List ℕ) (s : State) (limit : ℕ) (e : Entry) (back ahead : List Entry) → Log u limit (e ∷ back) ahead → Headed u s → BackEntry u s e back ahead
back_entry u s limit e back ahead h k =
    let b = log_back u (16 + s.start) (16 + s.cursor) (16 + s.end) e back ahead (logged_now u s limit (e ∷ back) ahead h k) in
    let i : 15 + s.cursor ≡ 16 + s.cursor - 1 = omega arith in
    let size : back_size u s ≡ entry_size e = ap (λ x. get_or u x 0) i ∙ b.0 in
    let fits : s.start + entry_size e ≤ s.cursor = omega (arith, b.1) in
    let p : 16 + s.cursor - entry_size e ≡ back_at u s = omega arith in
    record { size = size; fits = fits; at = subst (λ x. EntryAt u x e) p b.2; moved = subst (λ x. Logged u (16 + s.start) x (16 + s.end) back (e ∷ ahead)) p b.3 }

pub record BackCan (u : List ℕ) (s : State) : Type 0 where
  pub fits : back_size u s ≤ s.cursor
  pub there : back_at u s + 1 < length u
  pub one : 1 ≤ s.behind
  pub less : back_count u s ≤ s.done
  pub many : s.ahead + 1 ≤ 16000000
  pub more : s.undone + back_count u s ≤ 1000000

back_can_at : (u : List ℕ) (s : State) (limit : ℕ) (back ahead : List Entry) → Log u limit back ahead → Headed u s → 0 < get_or u 3 0 → BackCan u s
unfolding all_count
back_can_at u s limit [] ahead h k more = absurd (omega arith)
back_can_at u s limit (e ∷ back) ahead h k more =
    let b = back_entry u s limit e back ahead h k in
    let n : back_count u s ≡ counts e = b.at.count_word in
    let l = log_long u (start_of u) (cursor_of u) (end_of u) (e ∷ back) ahead h.words in
    let inside : end_of u ≤ length u = h.words.inside in
    let ended : cursor_of u ≤ end_of u = h.words.ended in
    let size = b.size in
    let fits = b.fits in
    let many : 8 * length ahead ≤ end_of u - cursor_of u = l.3 in
    record { fits = omega arith; there = omega arith; one = omega arith; less = omega arith; many = omega arith; more = omega arith }

pub back_can : (u : List ℕ) (s : State) → SomeLog u → Headed u s → 0 < get_or u 3 0 → BackCan u s
back_can u s x k more = back_can_at u s x.limit x.keeps.back x.keeps.ahead x.keeps.log k more

pub stepped_back : (u new : List ℕ) (s : State) → Headed u s → Headed new (back_state u s) → drop 7 new ≡ drop 7 u → length new ≡ length u → StepsBack u new (back_at u s)
unfolding all_count
stepped_back u new s k q same long limit e back ahead h =
    let b = back_entry u s limit e back ahead h k in
    let n : back_count u s ≡ counts e = b.at.count_word in
    let size : back_size u s ≡ entry_size e = b.size in
    let fits = b.fits in
    let ended : cursor_of u ≤ end_of u = h.words.ended in
    let inside : end_of u ≤ length u = h.words.inside in
    record {
      log =
          record {
            words = logged_new u new s.start (s.cursor - back_size u s) s.end back (e ∷ ahead) b.moved same long q.start q.cursor q.end;
            room = omega arith;
            many_back = omega arith;
            many_ahead = omega arith;
            done = omega arith;
            undone = omega arith;
            within = omega arith;
            low = h.low;
            long = omega arith;
          };
      was = b.at;
      stands = entry_kept u new 7 (back_at u s) e (omega arith) same b.at;
      inside = omega arith;
    }

back_keeps :
    (u new : List ℕ) (a limit : ℕ) (back ahead : List Entry) → StepsBack u new a → 0 < get_or u 3 0 → Log u limit back ahead → Keeps new limit × Inside new a
back_keeps u new a limit [] ahead steps more h = absurd (omega arith)
back_keeps u new a limit (e ∷ back) ahead steps more h =
    let r = steps limit e back ahead h in
    (record { back = back; ahead = e ∷ ahead; log = r.log }, inside_at u new limit back (e ∷ ahead) a e r)

pub keeps_back : (u new : List ℕ) (a limit : ℕ) → StepsBack u new a → 0 < get_or u 3 0 → Keeps u limit → Keeps new limit × Inside new a
keeps_back u new a limit steps more x = back_keeps u new a limit x.back x.ahead steps more x.log

-- One step ahead: the entry at the cursor.
abbrev pub ahead_at : State → ℕ
ahead_at s = 16 + s.cursor

abbrev ahead_size : List ℕ → State → ℕ
ahead_size u s = get_or u (ahead_at s) 0

abbrev ahead_count : List ℕ → State → ℕ
ahead_count u s = get_or u (ahead_at s + 1) 0

abbrev pub ahead_state : List ℕ → State → State
ahead_state u s =
    record {
      start = s.start;
      cursor = s.cursor + ahead_size u s;
      end = s.end;
      behind = s.behind + 1;
      ahead = s.ahead - 1;
      done = s.done + ahead_count u s;
      undone = s.undone - ahead_count u s;
    }

record AheadEntry (u : List ℕ) (s : State) (e : Entry) (back ahead : List Entry) : Type 0 where
  fits : s.cursor + ahead_size u s ≤ s.end
  at : EntryAt u (ahead_at s) e
  moved : Logged u (16 + s.start) (16 + (s.cursor + ahead_size u s)) (16 + s.end) (e ∷ back) ahead

ahead_entry : (u : List ℕ) (s : State) (limit : ℕ) (e : Entry) (back ahead : List Entry) → Log u limit back (e ∷ ahead) → Headed u s → AheadEntry u s e back ahead
ahead_entry u s limit e back ahead h k =
    let b = log_ahead u (16 + s.start) (16 + s.cursor) (16 + s.end) e back ahead (logged_now u s limit back (e ∷ ahead) h k) in
    let n : ahead_size u s ≡ entry_size e = b.1.size_word in
    let p : 16 + s.cursor + entry_size e ≡ 16 + (s.cursor + ahead_size u s) = omega arith in
    record { fits = omega (arith, b.0); at = b.1; moved = subst (λ x. Logged u (16 + s.start) x (16 + s.end) (e ∷ back) ahead) p b.2 }

pub record AheadCan (u : List ℕ) (s : State) : Type 0 where
  pub here : ahead_at s < length u
  pub there : ahead_at s + 1 < length u
  pub fits : s.cursor + ahead_size u s ≤ 16000000
  pub one : 1 ≤ s.ahead
  pub less : ahead_count u s ≤ s.undone
  pub many : s.behind + 1 ≤ 16000000
  pub more : s.done + ahead_count u s ≤ 1000000

ahead_can_at : (u : List ℕ) (s : State) (limit : ℕ) (back ahead : List Entry) → Log u limit back ahead → Headed u s → 0 < get_or u 4 0 → AheadCan u s
unfolding all_count
ahead_can_at u s limit back [] h k more = absurd (omega arith)
ahead_can_at u s limit back (e ∷ ahead) h k more =
    let b = ahead_entry u s limit e back ahead h k in
    let n : ahead_count u s ≡ counts e = b.at.count_word in
    let m : ahead_size u s ≡ entry_size e = b.at.size_word in
    let l = log_long u (start_of u) (cursor_of u) (end_of u) back (e ∷ ahead) h.words in
    let inside : end_of u ≤ length u = h.words.inside in
    let fits = b.fits in
    let many : 8 * length back ≤ cursor_of u - start_of u = l.2 in
    record { here = omega arith; there = omega arith; fits = omega arith; one = omega arith; less = omega arith; many = omega arith; more = omega arith }

pub ahead_can : (u : List ℕ) (s : State) → SomeLog u → Headed u s → 0 < get_or u 4 0 → AheadCan u s
ahead_can u s x k more = ahead_can_at u s x.limit x.keeps.back x.keeps.ahead x.keeps.log k more

pub stepped_ahead : (u new : List ℕ) (s : State) → Headed u s → Headed new (ahead_state u s) → drop 7 new ≡ drop 7 u → length new ≡ length u → StepsAhead u new (ahead_at s)
unfolding all_count
stepped_ahead u new s k q same long limit e back ahead h =
    let b = ahead_entry u s limit e back ahead h k in
    let n : ahead_count u s ≡ counts e = b.at.count_word in
    let size : ahead_size u s ≡ entry_size e = b.at.size_word in
    let fits = b.fits in
    let ended : cursor_of u ≤ end_of u = h.words.ended in
    let inside : end_of u ≤ length u = h.words.inside in
    record {
      log =
          record {
            words = logged_new u new s.start (s.cursor + ahead_size u s) s.end (e ∷ back) ahead b.moved same long q.start q.cursor q.end;
            room = omega arith;
            many_back = omega arith;
            many_ahead = omega arith;
            done = omega arith;
            undone = omega arith;
            within = omega arith;
            low = h.low;
            long = omega arith;
          };
      was = b.at;
      stands = entry_kept u new 7 (ahead_at s) e (omega arith) same b.at;
      inside = omega arith;
    }

ahead_keeps :
    (u new : List ℕ) (a limit : ℕ) (back ahead : List Entry) → StepsAhead u new a → 0 < get_or u 4 0 → Log u limit back ahead → Keeps new limit × Inside new a
ahead_keeps u new a limit back [] steps more h = absurd (omega arith)
ahead_keeps u new a limit back (e ∷ ahead) steps more h =
    let r = steps limit e back ahead h in
    (record { back = e ∷ back; ahead = ahead; log = r.log }, inside_at u new limit (e ∷ back) ahead a e r)

pub keeps_ahead : (u new : List ℕ) (a limit : ℕ) → StepsAhead u new a → 0 < get_or u 4 0 → Keeps u limit → Keeps new limit × Inside new a
keeps_ahead u new a limit steps more x = ahead_keeps u new a limit x.back x.ahead steps more x.log

-- The log of nothing.
pub cleared :
    (u new : List ℕ) (limit : ℕ) → new ≡ replicate (16 + 16 * limit) 0 ++ drop (16 + 16 * limit) u → limit ≤ 1000000 → 16 + 16 * limit ≤ length new → Log new limit [] []
unfolding back_words ahead_words all_count
cleared u new limit h low long =
    let n : length (replicate {A = ℕ} (16 + 16 * limit) 0) ≡ 16 + 16 * limit = length-replicate (16 + 16 * limit) 0 in
    let z : (k : ℕ) → k < 16 → get_or new k 0 ≡ 0 =
    λ k b.
    ap (λ xs. get_or xs k 0) h ∙ get_or_append_left (replicate (16 + 16 * limit) 0) (drop (16 + 16 * limit) u) 0 k (omega arith)
    ∙ get_or-replicate (16 + 16 * limit) k 0 0 (omega arith) in
    let z0 : get_or new 0 0 ≡ 0 = z 0 (omega arith) in
    let z1 : get_or new 1 0 ≡ 0 = z 1 (omega arith) in
    let z2 : get_or new 2 0 ≡ 0 = z 2 (omega arith) in
    let none : Logged new 16 16 16 [] [] = record { behind = between_none new 16; before = between_none new 16; begun = omega arith; ended = omega arith; inside = omega arith } in
    record {
      words = logged_at new 16 16 16 (start_of new) (cursor_of new) (end_of new) [] [] none (omega arith) (omega arith) (omega arith);
      room = omega arith;
      many_back = z 3 (omega arith);
      many_ahead = z 4 (omega arith);
      done = z 5 (omega arith);
      undone = z 6 (omega arith);
      within = omega arith;
      low = low;
      long = long;
    }

-- Nothing is ahead any more.
abbrev drop_state : State → State
drop_state s = record { start = s.start; cursor = s.cursor; end = s.cursor; behind = s.behind; ahead = 0; done = s.done; undone = 0 }

pub dropped : (u new : List ℕ) (s : State) → Headed u s → Headed new (drop_state s) → drop 7 new ≡ drop 7 u → length new ≡ length u → Drops u new
unfolding all_count
dropped u new s k q same long limit back ahead h =
    let ended : cursor_of u ≤ end_of u = h.words.ended in
    record {
      words =
          logged_new u new s.start s.cursor s.cursor back []
          (log_drops u (16 + s.start) (16 + s.cursor) (16 + s.end) back ahead (logged_now u s limit back ahead h k)) same long q.start q.cursor q.end;
      room = omega arith;
      many_back = omega arith;
      many_ahead = omega arith;
      done = omega arith;
      undone = omega arith;
      within = omega arith;
      low = h.low;
      long = omega arith;
    }

-- The oldest is forgotten.
abbrev old_at : State → ℕ
old_at s = 16 + s.start

abbrev old_size : List ℕ → State → ℕ
old_size u s = get_or u (old_at s) 0

abbrev old_count : List ℕ → State → ℕ
old_count u s = get_or u (old_at s + 1) 0

abbrev old_state : List ℕ → State → State
old_state u s =
    record {
      start = s.start + old_size u s;
      cursor = s.cursor;
      end = s.end;
      behind = s.behind - 1;
      ahead = s.ahead;
      done = s.done - old_count u s;
      undone = s.undone;
    }

record OldEntry (u : List ℕ) (s : State) (e : Entry) (back ahead : List Entry) : Type 0 where
  fits : s.start + old_size u s ≤ s.cursor
  at : EntryAt u (old_at s) e
  moved : Logged u (16 + (s.start + old_size u s)) (16 + s.cursor) (16 + s.end) back ahead

old_entry : (u : List ℕ) (s : State) (limit : ℕ) (e : Entry) (back ahead : List Entry) → Log u limit (back ++ (e ∷ [])) ahead → Headed u s → OldEntry u s e back ahead
old_entry u s limit e back ahead h k =
    let b = log_forgets u (16 + s.start) (16 + s.cursor) (16 + s.end) e back ahead (logged_now u s limit (back ++ (e ∷ [])) ahead h k) in
    let n : old_size u s ≡ entry_size e = b.1.size_word in
    let p : 16 + s.start + entry_size e ≡ 16 + (s.start + old_size u s) = omega arith in
    record { fits = omega (arith, b.0); at = b.1; moved = subst (λ x. Logged u x (16 + s.cursor) (16 + s.end) back ahead) p b.2 }

-- what counts more than nothing has an oldest
record Oldest (back : List Entry) : Type 0 where
  front : List Entry
  last : Entry
  is : back ≡ front ++ (last ∷ [])

has_oldest : (back : List Entry) → 0 < all_count back → Oldest back
unfolding all_count
has_oldest [] h = absurd (omega arith)
has_oldest (e ∷ back) h = let o = oldest e back in record { front = o.0; last = o.1; is = o.2 }

pub record OldCan (u : List ℕ) (s : State) : Type 0 where
  pub here : old_at s < length u
  pub there : old_at s + 1 < length u
  pub fits : s.start + old_size u s ≤ 16000000
  pub one : 1 ≤ s.behind
  pub less : old_count u s ≤ s.done

old_can_at : (u : List ℕ) (s : State) (limit : ℕ) (e : Entry) (back ahead : List Entry) → Log u limit (back ++ (e ∷ [])) ahead → Headed u s → OldCan u s
old_can_at u s limit e back ahead h k =
    let b = old_entry u s limit e back ahead h k in
    let n : old_count u s ≡ counts e = b.at.count_word in
    let m : old_size u s ≡ entry_size e = b.at.size_word in
    let all = all_count_push back e in
    let len : length (back ++ (e ∷ [])) ≡ length back + 1 = length-append back (e ∷ []) in
    let inside : end_of u ≤ length u = h.words.inside in
    let ended : cursor_of u ≤ end_of u = h.words.ended in
    let fits = b.fits in
    record { here = omega arith; there = omega arith; fits = omega arith; one = omega arith; less = omega arith }

pub old_can : (u : List ℕ) (s : State) → SomeLog u → Headed u s → 0 < get_or u 5 0 → OldCan u s
old_can u s x k more =
    let o = has_oldest x.keeps.back (omega arith) in
    old_can_at u s x.limit o.last o.front x.keeps.ahead (subst (λ b. Log u x.limit b x.keeps.ahead) o.is x.keeps.log) k

pub forgot : (u new : List ℕ) (s : State) → Headed u s → Headed new (old_state u s) → drop 7 new ≡ drop 7 u → length new ≡ length u → ForgetsOldest u new
forgot u new s k q same long limit e back ahead h =
    let b = old_entry u s limit e back ahead h k in
    let n : old_count u s ≡ counts e = b.at.count_word in
    let all = all_count_push back e in
    let len : length (back ++ (e ∷ [])) ≡ length back + 1 = length-append back (e ∷ []) in
    record {
      words = logged_new u new (s.start + old_size u s) s.cursor s.end back ahead b.moved same long q.start q.cursor q.end;
      room = omega arith;
      many_back = omega arith;
      many_ahead = omega arith;
      done = omega arith;
      undone = omega arith;
      within = omega arith;
      low = h.low;
      long = omega arith;
    }

-- Forgetting, as far as it has come.
pub record Forgetting (u new : List ℕ) (most : ℕ) : Type 0 where
  pub some : SomeLog new
  pub rest : drop 7 new ≡ drop 7 u
  pub goes : (limit : ℕ) (back ahead : List Entry) → Log u limit back ahead → (b : List Entry) × Log new limit b ahead × (kept most b ≡ kept most back)

pub forgetting_none : (u : List ℕ) (most : ℕ) → SomeLog u → Forgetting u u most
forgetting_none u most h = record { some = h; rest = refl; goes = λ limit back ahead l. (back, l, refl) }

pub forgetting_more :
    (u new next : List ℕ) (most : ℕ) → Forgetting u new most → most < get_or new 5 0 → ForgetsOldest new next → drop 7 next ≡ drop 7 new → Forgetting u next most
forgetting_more u new next most f over forgets same =
    let one : (limit : ℕ) (b ahead : List Entry) → Log new limit b ahead → (r : List Entry) × Log next limit r ahead × (kept most r ≡ kept most b) =
    λ limit b ahead l.
    let o = has_oldest b (omega arith) in
    let count : all_count b ≡ all_count (o.front ++ (o.last ∷ [])) = ap all_count o.is in (
      o.front,
      forgets limit o.last o.front ahead (subst (λ x. Log new limit x ahead) o.is l),
      sym (kept_forgets most o.front o.last (omega arith)) ∙ ap (kept most) (sym o.is),
    ) in
    let s = f.some in
    let x = one s.limit s.keeps.back s.keeps.ahead s.keeps.log in
    record {
      some = record { limit = s.limit; keeps = record { back = x.0; ahead = s.keeps.ahead; log = x.1 } };
      rest = same ∙ f.rest;
      goes = λ limit back ahead l. let g = f.goes limit back ahead l in let y = one limit g.0 ahead g.1 in (y.0, y.1, y.2 ∙ g.2);
    }

pub forgetting_all : (u new : List ℕ) (most : ℕ) → Forgetting u new most → get_or new 5 0 ≤ most → Forgets u new most
forgetting_all u new most f within limit back ahead l =
    let g = f.goes limit back ahead l in
    let all : kept most g.0 ≡ g.0 = kept_all most g.0 (omega (arith, g.1)) in
    subst (λ x. Log new limit x ahead) (sym all ∙ g.2) g.1

-- To the front.
abbrev front_state : State → State
front_state s =
    record {
      start = 0;
      cursor = s.cursor - s.start;
      end = s.end - s.start;
      behind = s.behind;
      ahead = s.ahead;
      done = s.done;
      undone = s.undone;
    }

module _ (u mid new : List ℕ) (s : State) (k : Headed u s) (a : s.start ≤ s.end) (b : 16 + s.end ≤ length u)
    (is : mid ≡ paste u 16 (drop (16 + s.start) u) (16 + s.end - (16 + s.start))) (same : drop 7 new ≡ drop 7 mid) (long : length new ≡ length u) where
  front_words : between 16 (16 + (s.end - s.start)) new ≡ between (16 + s.start) (16 + s.end) u
  front_words =
      let n : ℕ = 16 + s.end - (16 + s.start) in
      let part : List ℕ = take n (drop (16 + s.start) u) in
      let first : length (take 16 u) ≡ 16 = length-take-le 16 u (omega arith) in
      let l : length (drop (16 + s.start) u) ≡ length u - (16 + s.start) = length-drop (16 + s.start) u in
      let second : length part ≡ n = length-take-le n (drop (16 + s.start) u) (omega arith) in
      let m : 16 + (s.end - s.start) - 16 ≡ n = omega arith in
      ap (λ x. take x (drop 16 new)) m ∙ ap (take n) (from_on mid new 7 16 (omega arith) same) ∙ ap (λ xs. take n (drop 16 xs)) (is ∙ append_assoc (take 16 u) part (drop (16 + n) u))
      ∙ ap (take n) (drop_at (take 16 u) (part ++ drop (16 + n) u) 16 first) ∙ take_at part (drop (16 + n) u) n second

  pub front_rest : (i : ℕ) → 16 + s.end ≤ i → drop i new ≡ drop i u
  front_rest i c =
      let n : ℕ = 16 + s.end - (16 + s.start) in
      let part : List ℕ = take n (drop (16 + s.start) u) in
      let first : length (take 16 u) ≡ 16 = length-take-le 16 u (omega arith) in
      let l : length (drop (16 + s.start) u) ≡ length u - (16 + s.start) = length-drop (16 + s.start) u in
      let second : length part ≡ n = length-take-le n (drop (16 + s.start) u) (omega arith) in
      let at : drop (16 + n) mid ≡ drop (16 + n) u =
      sym (drop-drop n 16 mid) ∙ ap (λ xs. drop n (drop 16 xs)) (is ∙ append_assoc (take 16 u) part (drop (16 + n) u)) ∙ ap (drop n) (drop_at (take 16 u) (part ++ drop (16 + n) u) 16 first) ∙ drop_at part (drop (16 + n) u) n second in
      from_on mid new 7 i (omega arith) same ∙ from_on u mid (16 + n) i (omega arith) at

  pub front_stays : Headed new (front_state s) → Stays u new
  front_stays q limit back ahead h =
      let w = logged_now u s limit back ahead h k in
      let begun : 16 + s.start ≤ 16 + s.cursor = w.begun in
      let ended : 16 + s.cursor ≤ 16 + s.end = w.ended in
      let m : Logged new 16 (16 + (s.cursor - s.start)) (16 + (s.end - s.start)) back ahead =
      log_moves_to u new (16 + s.start) (16 + s.cursor) (16 + s.end) 16 (16 + (s.cursor - s.start)) (16 + (s.end - s.start)) back ahead w (omega arith) (omega arith)
      front_words (omega arith) in
      record {
        words =
            logged_at new 16 (16 + (s.cursor - s.start)) (16 + (s.end - s.start)) (start_of new) (cursor_of new) (end_of new) back ahead m
            (omega arith) (omega arith) (omega arith);
        room = omega arith;
        many_back = omega arith;
        many_ahead = omega arith;
        done = omega arith;
        undone = omega arith;
        within = h.within;
        low = h.low;
        long = omega arith;
      }

-- where nothing is ahead the cursor stands at the end
none_ahead_at : (u : List ℕ) (limit : ℕ) (back ahead : List Entry) → Log u limit back ahead → get_or u 4 0 ≡ 0 → cursor_of u ≡ end_of u
unfolding all_count
none_ahead_at u limit back [] h z = let l = log_long u (start_of u) (cursor_of u) (end_of u) back [] h.words in omega (arith, l.1, h.words.ended)
none_ahead_at u limit back (e ∷ ahead) h z = absurd (omega arith)

pub cursor_at_end : (u : List ℕ) (limit : ℕ) → Keeps u limit → get_or u 4 0 ≡ 0 → cursor_of u ≡ end_of u
cursor_at_end u limit x z = none_ahead_at u limit x.back x.ahead x.log z

pub room_there : (u : List ℕ) (limit count : ℕ) → Keeps u limit → get_or u 4 0 ≡ 0 → get_or u 5 0 + count ≤ limit → end_of u + 8 * count ≤ 16 + 16 * limit → Room u limit count (end_of u)
room_there u limit count x z within free = record { cursor = sym (cursor_at_end u limit x z); end = refl; none_ahead = z; free = free; within = within }

pub room_front :
    (u new : List ℕ) (limit count : ℕ) → Keeps u limit → get_or u 4 0 ≡ 0 → get_or u 5 0 + count ≤ limit → Stays u new → get_or new 0 0 ≡ 0 → Room new limit count (end_of new)
room_front u new limit count x z within stays front =
    let h = x.log in
    let n = stays limit x.back x.ahead x.log in
    let l = log_long new (start_of new) (cursor_of new) (end_of new) x.back x.ahead n.words in
    let y : Keeps new limit = record { back = x.back; ahead = x.ahead; log = n } in
    let z' : get_or new 4 0 ≡ 0 = omega arith in
    let e = cursor_at_end new limit y z' in
    let c : cursor_of new ≤ start_of new + 8 * all_count x.back = l.0 in
    room_there new limit count y z' (omega arith) (omega arith)

-- Room, in one step after another.
no_count : (es : List Entry) → all_count es ≤ 0 → es ≡ []
unfolding all_count
no_count [] h = refl
no_count (e ∷ es) h = absurd (omega arith)

kept_none : (es : List Entry) → kept 0 es ≡ []
kept_none es = no_count (kept 0 es) (kept_within 0 es)

pub keeps_dropped : (u new : List ℕ) (limit : ℕ) → Keeps u limit → Drops u new → Keeps new limit
keeps_dropped u new limit x d = record { back = x.back; ahead = []; log = d limit x.back x.ahead x.log }

pub keeps_forgot : (u new : List ℕ) (limit most : ℕ) → Keeps u limit → Forgets u new most → Keeps new limit
keeps_forgot u new limit most x f = record { back = kept most x.back; ahead = x.ahead; log = f limit x.back x.ahead x.log }

pub none_forgot : (u new : List ℕ) (limit most : ℕ) → Keeps u limit → Forgets u new most → get_or u 4 0 ≡ 0 → get_or new 4 0 ≡ 0
none_forgot u new limit most x f z = let n = f limit x.back x.ahead x.log in omega (arith, x.log, n)

pub emptied : (u a b : List ℕ) (limit count : ℕ) → limit < count → Drops u a → Forgets a b 0 → Emptied u b limit count
emptied u a b limit count over d f =
    record { over = over; log = λ back ahead h. subst (λ x. Log b limit x []) (kept_none back) (f limit back [] (d limit back ahead h)) }

pub roomed :
    (u a b new : List ℕ) (limit count at : ℕ) → count ≤ limit → Drops u a → Forgets a b (limit - count) → Stays b new → Room new limit count at → Roomed u new limit count at
roomed u a b new limit count at fits d f s r =
    record { fits = fits; room = r; log = λ back ahead h. s limit (kept (limit - count) back) [] (f limit back [] (d limit back ahead h)) }

-- An entry is pushed.
abbrev push_state : State → ℕ → ℕ → State
push_state s size count =
    record {
      start = s.start;
      cursor = s.cursor + size;
      end = s.cursor + size;
      behind = s.behind + 1;
      ahead = s.ahead;
      done = s.done + count;
      undone = s.undone;
    }

pub record PushCan (s : State) (size count : ℕ) : Type 0 where
  pub fits : s.cursor + size ≤ 16000000
  pub many : s.behind + 1 ≤ 16000000
  pub more : s.done + count ≤ 1000000

pub push_can : (u : List ℕ) (s : State) (size count : ℕ) → CanPush u size count → Headed u s → PushCan s size count
push_can u s size count x k =
    let h = x.keeps.log in
    let l = log_long u (start_of u) (cursor_of u) (end_of u) x.keeps.back x.keeps.ahead h.words in
    let many : 8 * length x.keeps.back ≤ cursor_of u - start_of u = l.2 in
    let ended : cursor_of u ≤ end_of u = h.words.ended in
    let room = x.room in
    let within = x.within in
    record { fits = omega arith; many = omega arith; more = omega arith }

pub pushed :
    (u new : List ℕ) (s : State) (size count : ℕ) → Headed u s → Headed new (push_state s size count) → drop 7 new ≡ drop 7 u → length new ≡ length u → Pushes u new size count
unfolding all_count
pushed u new s size count k q same long limit e back h words is-size is-count room within =
    let w : Logged u (16 + s.start) (16 + s.cursor) (16 + s.cursor) back [] =
    log_drops u (16 + s.start) (16 + s.cursor) (16 + s.end) back [] (logged_now u s limit back [] h k) in
    let here : between (16 + s.cursor) (16 + s.cursor + entry_size e) u ≡ entry_words e =
    let i : 16 + s.cursor ≡ cursor_of u = omega arith in
    let j : 16 + s.cursor + entry_size e ≡ cursor_of u + size = omega arith in
    ap (λ x. between x (16 + s.cursor + entry_size e) u) i ∙ ap (λ x. between (cursor_of u) x u) j ∙ words in
    let p : Logged u (16 + s.start) (16 + s.cursor + entry_size e) (16 + s.cursor + entry_size e) (e ∷ back) [] =
    log_pushes u u (16 + s.start) (16 + s.cursor) e back w refl here (omega arith) in
    let at : 16 + s.cursor + entry_size e ≡ 16 + (s.cursor + size) = omega arith in
    let p' : Logged u (16 + s.start) (16 + (s.cursor + size)) (16 + (s.cursor + size)) (e ∷ back) [] =
    logged_at u (16 + s.start) (16 + s.cursor + entry_size e) (16 + s.cursor + entry_size e) (16 + s.start) (16 + (s.cursor + size)) (16 + (s.cursor + size)) (e ∷ back) [] p refl at at in
    record {
      words = logged_new u new s.start (s.cursor + size) (s.cursor + size) (e ∷ back) [] p' same long q.start q.cursor q.end;
      room = omega arith;
      many_back = omega arith;
      many_ahead = omega arith;
      done = omega arith;
      undone = omega arith;
      within = omega arith;
      low = h.low;
      long = omega arith;
    }

-- Words written from the end on.
below : (u new : List ℕ) (n k : ℕ) → k < n → take n new ≡ take n u → get_or new k 0 ≡ get_or u k 0
below u new n k b h = sym (get_or-take n new k 0 b) ∙ ap (λ xs. get_or xs k 0) h ∙ get_or-take n u k 0 b

pub written_keeps : WrittenKeeps
written_keeps u new limit back ahead h same long =
    let z : (k : ℕ) → k < 16 → get_or new k 0 ≡ get_or u k 0 = λ k b. below u new (end_of u) k (omega arith) same in
    let ended : cursor_of u ≤ end_of u = h.words.ended in
    let inside : end_of u ≤ length u = h.words.inside in
    let w : Logged new (start_of u) (cursor_of u) (end_of u) back ahead =
    record {
      behind = between_below u new (end_of u) (start_of u) (cursor_of u) ended same ∙ h.words.behind;
      before = between_below u new (end_of u) (cursor_of u) (end_of u) (omega arith) same ∙ h.words.before;
      begun = h.words.begun;
      ended = ended;
      inside = omega arith;
    } in
    let z0 = z 0 (omega arith) in
    let z1 = z 1 (omega arith) in
    let z2 = z 2 (omega arith) in
    record {
      words = logged_at new (start_of u) (cursor_of u) (end_of u) (start_of new) (cursor_of new) (end_of new) back ahead w (omega arith) (omega arith) (omega arith);
      room = omega arith;
      many_back = z 3 (omega arith) ∙ h.many_back;
      many_ahead = z 4 (omega arith) ∙ h.many_ahead;
      done = z 5 (omega arith) ∙ h.done;
      undone = z 6 (omega arith) ∙ h.undone;
      within = h.within;
      low = h.low;
      long = omega arith;
    }

pub written_keeps_room : WrittenKeepsRoom
written_keeps_room u new limit count a r same =
    let z : (k : ℕ) → k < 16 → get_or new k 0 ≡ get_or u k 0 = λ k b. below u new a k (omega arith) same in
    let z1 = z 1 (omega arith) in
    let z2 = z 2 (omega arith) in
    let z4 = z 4 (omega arith) in
    let z5 = z 5 (omega arith) in
    record { cursor = omega arith; end = omega arith; none_ahead = omega arith; free = r.free; within = omega arith }

pub room_pushes : RoomPushes
room_pushes u limit count a e x r is =
    record { limit = limit; keeps = x; none_ahead = r.none_ahead; room = omega (arith, (entry_long e).1, r.cursor, r.free); within = r.within }

-- From letters, cells or marks that stand in the room of the log to a record of the call.
use Rattle.std.proofs.Common.{◌≡◌, ℕ, ◌+◌, ◌-◌, ◌*◌, ◌<◌, ◌≤◌, List, [], ◌∷◌, ◌++◌, length, take, drop, set, sym, refl, ap, ◌∙◌, subst, arith}
use Rattle.std.proofs.lemmas.Bool.{le-leb, lt-leb}
use Rattle.std.specs.List.{between}
use Rattle.std.proofs.lemmas.List.{length-set, length-append, length-take-le, length-drop, take-take, take-set-le, drop-set-lt, take_at, drop_at, drop-drop}
use Rattle.model.specs.Paper.{pick}
use Rattle.history.specs.Entry.{Entry, was_put, was_struck, was_accepted, was_rejected, was_styled, counts}
use Rattle.history.specs.Steps.{kept}
use Rattle.history.specs.Words.{payload_words, entry_size, entry_words}
use Rattle.history.specs.Log.{Log, Keeps, Room, Roomed, Emptied, CanPush, Pushes, cursor_of, end_of}
use Rattle.history.specs.Head.{head_of, head_list, Written}
use Rattle.history.specs.declared.entry.Head.{Head}
use Rattle.history.proofs.Logging.{entry_long}
use Rattle.history.proofs.Keeping.{from_on, written_keeps, written_keeps_room}
use Rattle.history.proofs.Heads.{entry_written}
use Rattle.recorder.specs.Records.{Records, Ready, Seals}
use Rattle.recorder.proofs.Splices.{length_written, take_written, between_written, drop_written, written_at}

-- the head's numbers
head_size : (e : Entry) → (head_of e).size ≡ entry_size e
unfolding head_of
head_size (was_put a i s ls) = refl
head_size (was_struck a i k old) = refl
head_size (was_accepted c ms) = refl
head_size (was_rejected c ms) = refl
head_size (was_styled i s old) = refl

head_count : (e : Entry) → (head_of e).count ≡ counts e
unfolding head_of
head_count (was_put a i s ls) = refl
head_count (was_struck a i k old) = refl
head_count (was_accepted c ms) = refl
head_count (was_rejected c ms) = refl
head_count (was_styled i s old) = refl

-- the words after head and tail are written
abbrev pub headed : List ℕ → ℕ → Head → List ℕ
headed w a h = take a w ++ (head_list h ++ drop (a + 7) w)

module _ (w : List ℕ) (a : ℕ) (h : Head) (fits : a + 7 ≤ length w) where
  front : length (take a w) ≡ a
  front = length-take-le a w (omega arith)

  pub length_headed : length (headed w a h) ≡ length w
  length_headed = omega (arith, length-append (take a w) (head_list h ++ drop (a + 7) w), length-append (head_list h) (drop (a + 7) w), length-drop (a + 7) w, front)

  pub take_headed : take a (headed w a h) ≡ take a w
  take_headed = take_at (take a w) (head_list h ++ drop (a + 7) w) a front

  pub drop_headed : drop (a + 7) (headed w a h) ≡ drop (a + 7) w
  drop_headed = sym (drop-drop 7 a (headed w a h)) ∙ ap (drop 7) (drop_at (take a w) (head_list h ++ drop (a + 7) w) a front) ∙ drop_at (head_list h) (drop (a + 7) w) 7 refl

-- where there is room, its words are inside
pub room_inside : (w : List ℕ) (limit count a : ℕ) → Keeps w limit → Room w limit count a → (a + 8 * count ≤ length w) × (16 ≤ a)
room_inside w limit count a k r = (omega (arith, k.log.long, r.free), omega (arith, r.cursor))

module _ (w x y : List ℕ) (a : ℕ) (h : Head) (ready : Ready w a h) (is_x : x ≡ headed w a h) (is_y : y ≡ set x (a + h.size - 1) h.size) where
  inside : a + h.size ≤ length w
  inside = let r = room_inside w ready.limit h.count a ready.keeps ready.room in omega (arith, ready.most, r.0)

  fits : a + 7 ≤ length w
  fits = omega (arith, inside, ready.some)

  pub long_x : length x ≡ length w
  long_x = ap length is_x ∙ length_headed w a h fits

  long_y : length y ≡ length w
  long_y = ap length is_y ∙ length-set x (a + h.size - 1) h.size ∙ long_x

  same : take a y ≡ take a w
  same = ap (take a) is_y ∙ take-set-le a x (a + h.size - 1) h.size (omega (arith, ready.some)) ∙ ap (take a) is_x ∙ take_headed w a h fits

  room_y : Room y ready.limit h.count a
  room_y = written_keeps_room w y ready.limit h.count a ready.room same

  log_y : (back ahead : List Entry) (limit : ℕ) → Log w limit back ahead → Log y limit back ahead
  log_y back ahead limit l =
      let e : a ≡ end_of w = ready.room.end in
      written_keeps w y limit back ahead l (ap (λ n. take n y) (sym e) ∙ same ∙ ap (λ n. take n w) e) long_y

  pub can_push : CanPush y h.size h.count
  can_push =
      let k = ready.keeps in
      record {
        limit = ready.limit;
        keeps = record { back = k.back; ahead = k.ahead; log = log_y k.back k.ahead ready.limit k.log };
        none_ahead = room_y.none_ahead;
        room = omega (arith, room_y.cursor, room_y.free, ready.most);
        within = room_y.within;
      }

  pub sealed : (new : List ℕ) → Pushes y new h.size h.count → Seals w new a h
  sealed new push limit e back is l room payload =
      let size : h.size ≡ entry_size e = ap (λ k. k.size) is ∙ head_size e in
      let count : h.count ≡ counts e = ap (λ k. k.count) is ∙ head_count e in
      let n : ℕ = length (payload_words e) in
      let d : drop (a + 7) x ≡ drop (a + 7) w = ap (drop (a + 7)) is_x ∙ drop_headed w a h fits in
      let p : between (a + 7) (a + 7 + n) x ≡ payload_words e = ap (take (a + 7 + n - (a + 7))) d ∙ payload in
      let is-x2 : x ≡ headed w a (head_of e) = is_x ∙ ap (headed w a) is in
      let is-y2 : y ≡ set x (a + entry_size e - 1) (entry_size e) = is_y ∙ ap (λ m. set x (a + m - 1) m) size in
      let there : Written w x y a e = entry_written w x x y a e (omega (arith, inside)) is-x2 refl p long_x is-y2 in
      let r : Room y limit h.count a = written_keeps_room w y limit h.count a room same in
      let ly : Log y limit back [] = log_y back [] limit l in
      let at : a ≡ cursor_of y = r.cursor in
      let words2 : between (cursor_of y) (cursor_of y + entry_size e) y ≡ entry_words e = subst (λ i. between i (i + entry_size e) y ≡ entry_words e) at there.words in
      let words3 : between (cursor_of y) (cursor_of y + h.size) y ≡ entry_words e = subst (λ m. between (cursor_of y) (cursor_of y + m) y ≡ entry_words e) (sym size) words2 in
      push limit e back ly words3 size count (omega (arith, r.free, at, ready.most)) (omega (arith, r.within, ly.done))

  pub rest_sealed : (new : List ℕ) → drop 7 new ≡ drop 7 y → drop (a + h.size) new ≡ drop (a + h.size) w
  rest_sealed new s =
      let r = room_inside w ready.limit h.count a ready.keeps ready.room in
      from_on y new 7 (a + h.size) (omega (arith, r.1)) s ∙ ap (drop (a + h.size)) is_y
      ∙ drop-set-lt (a + h.size) x (a + h.size - 1) h.size (omega (arith, ready.some))
      ∙ ap (drop (a + h.size)) is_x
      ∙ from_on w (headed w a h) (a + 7) (a + h.size) (omega (arith, ready.some)) (drop_headed w a h fits)

-- what is kept: an entry within the limit, or nothing
kept_new : (limit : ℕ) (e : Entry) (back : List Entry) → counts e ≤ limit → kept limit (e ∷ back) ≡ e ∷ kept (limit - counts e) back
unfolding kept
kept_new limit e back h = ap (λ t. pick t (e ∷ kept (limit - counts e) back) []) (le-leb (counts e) limit h)

kept_over : (limit : ℕ) (e : Entry) (back : List Entry) → limit < counts e → kept limit (e ∷ back) ≡ []
unfolding kept
kept_over limit e back h = ap (λ t. pick t (e ∷ kept (limit - counts e) back) []) (lt-leb (counts e) limit h)

pub too_much : (u new : List ℕ) (limit count : ℕ) (e : Entry) → count ≡ counts e → Emptied u new limit count → Records u new limit e
too_much u new limit count e is h back ahead l = subst (λ b. Log new limit b []) (sym (kept_over limit e back (omega (arith, h.over)))) (h.log back ahead l)

-- the room is inside
pub roomed_inside : (u free : List ℕ) (limit count a : ℕ) → Keeps u limit → Roomed u free limit count a → (a + 8 * count ≤ length free) × (count ≤ 1000000)
roomed_inside u free limit count a k r =
    let l = r.log k.back k.ahead k.log in
    (omega (arith, l.long, r.room.free), omega (arith, l.low, r.fits))

-- The shared way of every record: there is room for the entry in `free`, and in w its letters, cells or marks ws stand there.
module _ (u free w : List ℕ) (limit a : ℕ) (h : Head) (e : Entry) (ws : List ℕ) (k : Keeps u limit) (roomed : Roomed u free limit h.count a) (is : h ≡ head_of e)
    (of-e : payload_words e ≡ ws) (of-w : w ≡ written_at free (a + 7) ws) where
  is_w : w ≡ written_at free (a + 7) (payload_words e)
  is_w = of-w ∙ ap (written_at free (a + 7)) (sym of-e)

  keeps_free : Keeps free limit
  keeps_free = record { back = kept (limit - h.count) k.back; ahead = []; log = roomed.log k.back k.ahead k.log }

  size_is : h.size ≡ entry_size e
  size_is = ap (λ x. x.size) is ∙ head_size e

  count_is : h.count ≡ counts e
  count_is = ap (λ x. x.count) is ∙ head_count e

  small : entry_size e ≤ 8 * h.count
  small = omega (arith, (entry_long e).1, count_is)

  fits_free : a + 7 + length (payload_words e) ≤ length free
  fits_free = let r = room_inside free limit h.count a keeps_free roomed.room in omega (arith, r.0, small)

  same_free : take a w ≡ take a free
  same_free =
      let t : take (a + 7) w ≡ take (a + 7) free = ap (take (a + 7)) is_w ∙ take_written free (a + 7) (payload_words e) fits_free in
      sym (take-take a (a + 7) w (omega arith)) ∙ ap (take a) t ∙ take-take a (a + 7) free (omega arith)

  log_free : (back ahead : List Entry) → Log free limit back ahead → Log w limit back ahead
  log_free back ahead l =
      let at : a ≡ end_of free = roomed.room.end in
      written_keeps free w limit back ahead l (ap (λ n. take n w) (sym at) ∙ same_free ∙ ap (λ n. take n free) at) (ap length is_w ∙ length_written free (a + 7) (payload_words e) fits_free)

  room_free : Room w limit h.count a
  room_free = written_keeps_room free w limit h.count a roomed.room same_free

  pub ready : Ready w a h
  unfolding keeps_free
  ready =
      record {
        limit = limit;
        keeps = record { back = keeps_free.back; ahead = []; log = log_free keeps_free.back [] keeps_free.log };
        room = room_free;
        some = omega (arith, size_is);
        most = omega (arith, size_is, small);
      }

  pub recorded : (new : List ℕ) → Seals w new a h → Records u new limit e
  recorded new seals back ahead l =
      let p : between (a + 7) (a + 7 + length (payload_words e)) w ≡ payload_words e =
      ap (between (a + 7) (a + 7 + length (payload_words e))) is_w ∙ between_written free (a + 7) (payload_words e) fits_free in
      let last = seals limit e (kept (limit - h.count) back) is (log_free (kept (limit - h.count) back) [] (roomed.log back ahead l)) room_free p in
      let n : kept limit (e ∷ back) ≡ e ∷ kept (limit - h.count) back =
      kept_new limit e back (omega (arith, roomed.fits, count_is)) ∙ ap (λ m. e ∷ kept (limit - m) back) (sym count_is) in
      subst (λ b. Log new limit b []) (sym n) last

  pub rest_recorded : (new : List ℕ) → drop (16 + 16 * limit) free ≡ drop (16 + 16 * limit) u → drop (a + h.size) new ≡ drop (a + h.size) w →
      drop (16 + 16 * limit) new ≡ drop (16 + 16 * limit) u
  rest_recorded new same s =
      let r = roomed.room.free in
      from_on w new (a + h.size) (16 + 16 * limit) (omega (arith, size_is, small, r)) s
      ∙ ap (drop (16 + 16 * limit)) is_w ∙ drop_written free (a + 7) (payload_words e) fits_free (16 + 16 * limit) (omega (arith, small, r)) ∙ same

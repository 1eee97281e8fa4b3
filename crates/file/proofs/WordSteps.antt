-- The steps through a text, from word to word and from character to character.
use Rattle.std.proofs.Common.{Bor, Option, Some, None, Ok, Err, ◌≡◌, ℕ, ◌+◌, ◌-◌, ◌*◌, ◌<◌, ◌≤◌, Bool, true, false, ◌⊎◌, List, [], ◌∷◌, ◌++◌, map, length, get_or, take, drop, set, sym, refl, ap, ◌∙◌, subst, inl, inr, append_assoc, append-nil, arith}
use Rattle.std.specs.Prelude.{MatchOption}
use Rattle.std.specs.Option.{ok_or}
use Rattle.std.specs.List.{AllByRecursion}
use Rattle.std.proofs.lemmas.List.{drop_more, take_rest, length-append, length_push, length-map, take_at, set_at, map_push, get_or_at, get_or_append_left, get_or_push}
use Rattle.std.proofs.ByRecursion.{All-push, All-get_or}
use Rattle.std.proofs.lemmas.Bool.{both_ways}
use Rattle.model.proofs.Picks.{pick_true, pick_false}
use Rattle.file.specs.Words.{white, ended, words_after, words, value_after, value, Digit, WordFits, AllRead, Stops}
use Rattle.file.specs.Laws.{Solid, WordsAre}
use Rattle.file.specs.Scan.{PastWhite, NumberAt, NoNumber}

-- what digits are worth, one more, and at least what the first of them are
value_push : (v : ℕ) (w : List ℕ) (c : ℕ) → value_after v (w ++ (c ∷ [])) ≡ 10 * value_after v w + (c - 48)
unfolding value_after
value_push v [] c = refl
value_push v (d ∷ w) c = value_push (10 * v + (d - 48)) w c

value_more : (v : ℕ) (w : List ℕ) → v ≤ value_after v w
unfolding value_after
value_more v [] = omega arith
value_more v (c ∷ w) = omega (arith, value_more (10 * v + (c - 48)) w)

value_front : (v : ℕ) (w u : List ℕ) → value_after v w ≤ value_after v (w ++ u)
unfolding value_after
value_front v [] u = value_more v u
value_front v (c ∷ w) u = value_front (10 * v + (c - 48)) w u

-- the words, one character on
words_nil : (w : List ℕ) → words_after w [] ≡ ended w []
unfolding words_after
words_nil w = refl

words_white : (w : List ℕ) (c : ℕ) (cs : List ℕ) → white c ≡ true → words_after w (c ∷ cs) ≡ ended w (words cs)
unfolding words_after
words_white w c cs e = pick_true (white c) _ _ e

words_more : (w : List ℕ) (c : ℕ) (cs : List ℕ) → white c ≡ false → words_after w (c ∷ cs) ≡ words_after (w ++ (c ∷ [])) cs
unfolding words_after
words_more w c cs e = pick_false (white c) _ _ e

ended_some : (w : List ℕ) (ws : List (List ℕ)) → 0 < length w → ended w ws ≡ w ∷ ws
ended_some [] ws h = absurd (omega arith)
ended_some (c ∷ w) ws h = refl

-- a word that has begun is the front of the first word
first_word : (w cs : List ℕ) → 0 < length w → (u : List ℕ) × (ws : List (List ℕ)) × (words_after w cs ≡ (w ++ u) ∷ ws)
first_word w [] h = ([], [], words_nil w ∙ (ended_some w [] h ∙ ap (λ (v : List ℕ). v ∷ []) (sym (append-nil w))))
first_word w (c ∷ cs) h = go (white c) refl (first_word (w ++ (c ∷ [])) cs (omega (arith, length_push w c)))
  where
    go : (t : Bool) → white c ≡ t → (u : List ℕ) × (ws : List (List ℕ)) × (words_after (w ++ (c ∷ [])) cs ≡ ((w ++ (c ∷ [])) ++ u) ∷ ws)
        → (u : List ℕ) × (ws : List (List ℕ)) × (words_after w (c ∷ cs) ≡ (w ++ u) ∷ ws)
    go true e r = ([], words cs, words_white w c cs e ∙ (ended_some w (words cs) h ∙ ap (λ (v : List ℕ). v ∷ words cs) (sym (append-nil w))))
    go false e r = (c ∷ r.0, r.1, words_more w c cs e ∙ (r.2 ∙ ap (λ (v : List ℕ). v ∷ r.1) (append_assoc w (c ∷ []) r.0)))

-- a word with no white space in it, before white space and at the end
solid : (w u cs : List ℕ) → AllByRecursion Solid u → words_after w (u ++ cs) ≡ words_after (w ++ u) cs
solid w [] cs h = ap (λ (v : List ℕ). words_after v cs) (sym (append-nil w))
solid w (c ∷ u) cs h =
    words_more w c (u ++ cs) h.0 ∙ (solid (w ++ (c ∷ [])) u cs h.1 ∙ ap (λ (v : List ℕ). words_after v cs) (append_assoc w (c ∷ []) u))

pub words_are : WordsAre
words_are =
    record {
      none = words_nil [];
      blank = λ c text e. words_white [] c text e;
      last = λ w h s. ap words (sym (append-nil w)) ∙ (solid [] w [] s ∙ (words_nil w ∙ ended_some w [] h));
      first = λ w c text h s e. solid [] w (c ∷ text) s ∙ (words_white w c text e ∙ ended_some w (words text) h);
    }

-- a text and what is left behind its first character, as the code finds it
pub first_rest : (text : List ℕ) → 1 ≤ length text → text ≡ get_or text 0 0 ∷ take (length text - 1) (drop 1 text)
first_rest [] h = absurd (omega arith)
first_rest (c ∷ cs) h = ap (λ (v : List ℕ). c ∷ v) (sym (take_rest (c ∷ cs) 1))

pub length_rest : (text : List ℕ) → 1 ≤ length text → length (take (length text - 1) (drop 1 text)) < length text
length_rest text h = omega (arith, ap length (first_rest text h))

-- white space stands first
pub white_more : (c : ℕ) (left rest : List ℕ) → left ≡ c ∷ rest → white c ≡ true → words rest ≡ words left
white_more c left rest s e = sym (ap words s ∙ words_white [] c rest e)

-- a word has begun at the front of a text, and its digits, behind which `left` is left, are worth v
pub record Begun (text : List ℕ) (v : ℕ) (left : List ℕ) : Type 0 where
  pub word : List ℕ
  pub is : text ≡ word ++ left
  pub split : words text ≡ words_after word left
  pub fits : WordFits word
  pub worth : v ≡ value word

pub begun_none : (text : List ℕ) → Begun text 0 text
unfolding value_after
begun_none text = record { word = []; is = refl; split = refl; fits = record { digits = tt; small = omega arith }; worth = refl }

module _ (text : List ℕ) (v : ℕ) (left : List ℕ) (b : Begun text v left) where
  worth_next : (c : ℕ) → value (b.word ++ (c ∷ [])) ≡ 10 * v + (c - 48)
  worth_next c = omega (arith, value_push 0 b.word c, b.worth)

  module _ (c : ℕ) (rest : List ℕ) (s : left ≡ c ∷ rest) (e : white c ≡ false) where
    begun_next : words text ≡ words_after (b.word ++ (c ∷ [])) rest
    begun_next = b.split ∙ (ap (words_after b.word) s ∙ words_more b.word c rest e)

    pub begun_more : (u : ℕ) → Digit c × (u ≡ 10 * v + (c - 48)) × (u < 4294967296) → Begun text u rest
    begun_more u d =
        record {
          word = b.word ++ (c ∷ []);
          is = b.is ∙ (ap (λ (w : List ℕ). b.word ++ w) s ∙ sym (append_assoc b.word (c ∷ []) rest));
          split = begun_next;
          fits = record { digits = All-push Digit b.word c b.fits.digits d.0; small = omega (arith, worth_next c) };
          worth = omega (arith, worth_next c);
        }

    pub begun_bad : (Digit c → 10 * v + (c - 48) < 4294967296 → ⊥) → NoNumber text
    begun_bad bad =
        let w : List ℕ = b.word ++ (c ∷ []) in
        let long : length w ≡ length b.word + 1 = length_push b.word c in
        let f = first_word w rest (omega arith) in
        record {
          word = w ++ f.0;
          more = f.1;
          is = begun_next ∙ f.2;
          fits = λ g.
              let d : Digit (get_or (w ++ f.0) (length b.word) 0) = All-get_or Digit (w ++ f.0) (length b.word) 0 (omega (arith, length-append w f.0)) g.digits in
              let a : get_or (w ++ f.0) (length b.word) 0 ≡ c = get_or_append_left w f.0 0 (length b.word) (omega arith) ∙ get_or_push b.word c 0 (length b.word) refl in
              bad (rw a at d) (omega (arith, g.small, value_front 0 w f.0, worth_next c));
        }

-- a word that has begun is over before white space and at the end
word_over : (w left : List ℕ) → 0 < length w → (1 ≤ length left → white (get_or left 0 0) ≡ true) → words_after w left ≡ w ∷ words left
word_over w [] pos e = words_nil w ∙ (ended_some w [] pos ∙ ap (λ (ws : List (List ℕ)). w ∷ ws) (sym (words_nil [])))
word_over w (c ∷ cs) pos e =
    let t : white c ≡ true = e (omega arith) in
    words_white w c cs t ∙ (ended_some w (words cs) pos ∙ ap (λ (ws : List (List ℕ)). w ∷ ws) (sym (words_white [] c cs t)))

-- it has begun, as no white space stands first
has_begun : (text w left : List ℕ) → text ≡ w ++ left → 0 < length text → white (get_or text 0 0) ≡ false → (1 ≤ length left → white (get_or left 0 0) ≡ true) → 0 < length w
has_begun text [] left s h n e = absurd (both_ways (white (get_or text 0 0)) n (rw s (e (omega (arith, ap length s)))))
has_begun text (c ∷ w) left s h n e = omega arith

pub begun_end : (text : List ℕ) (v : ℕ) (left : List ℕ) → Begun text v left → 0 < length text → white (get_or text 0 0) ≡ false → (1 ≤ length left → white (get_or left 0 0) ≡ true)
    → NumberAt text v left
begun_end text v left b h n e =
    let pos = has_begun text b.word left b.is h n e in
    record { word = b.word; is = b.split ∙ word_over b.word left pos e; fits = b.fits; worth = b.worth; shorter = omega (arith, ap length b.is, length-append b.word left) }

-- nothing is left
words_none : (left : List ℕ) → length left ≤ 0 → words left ≡ []
words_none [] h = words_nil []
words_none (c ∷ cs) h = absurd (omega arith)

-- what `ok_or` makes of what begins a text
pub answered_none : (text : List ℕ) (o : Option (ℕ × Bor (List ℕ))) (n e : ℕ) → ok_or o n ≡ Err e → MatchOption o (NoNumber text) (λ p. NumberAt text p.0 p.1.now)
    → NoNumber text × (e ≡ n)
answered_none text None n e is p = (p, cc)
answered_none text (Some a) n e is q = cc

pub answered_some : (text : List ℕ) (o : Option (ℕ × Bor (List ℕ))) (n : ℕ) (a : ℕ × Bor (List ℕ)) → ok_or o n ≡ Ok a
    → MatchOption o (NoNumber text) (λ p. NumberAt text p.0 p.1.now) → NumberAt text a.0 a.1.now
answered_some text (Some b) n a is q = let e : b ≡ a = cc in subst (λ (p : ℕ × Bor (List ℕ)). NumberAt text p.0 p.1.now) e q
answered_some text None n a is p = cc

-- the first `count` words were read, and `left` is left
pub record Reads (text old out left : List ℕ) (count : ℕ) : Type 0 where
  pub done : List (List ℕ)
  pub split : words text ≡ done ++ words left
  pub long : length done ≡ count
  pub fit : AllByRecursion WordFits done
  pub wrote : out ≡ map value done ++ drop count old
  pub room : count ≤ length old
  pub next : 0 < length left → white (get_or left 0 0) ≡ false

module _ (text old out left : List ℕ) (count : ℕ) (r : Reads text old out left count) where
  pub reads_more : count < length old → (v : ℕ) (rest left' : List ℕ) → NumberAt left v rest → PastWhite rest left' → Reads text old (set out count v) left' (count + 1)
  reads_more h v rest left' n p =
      let done : List (List ℕ) = r.done ++ (n.word ∷ []) in
      let d = drop_more old count 0 h in
      let front : length (map value r.done) ≡ count = length-map r.done value ∙ r.long in
      let s : set (map value r.done ++ (get_or old count 0 ∷ drop (count + 1) old)) count v ≡ map value r.done ++ (v ∷ drop (count + 1) old) =
      set_at (map value r.done) (get_or old count 0) (drop (count + 1) old) v count front in
      let m = map_push value r.done n.word in
      let a = append_assoc (map value r.done) (value n.word ∷ []) (drop (count + 1) old) in
      let w = r.wrote in
      let u = n.worth in
      let t = append_assoc r.done (n.word ∷ []) (words left') in
      let k = r.split in
      let i = n.is in
      let q = p.same in
      record {
        done = done;
        split = cc;
        long = omega (arith, r.long, length_push r.done n.word);
        fit = All-push WordFits r.done n.word r.fit n.fits;
        wrote = cc;
        room = omega arith;
        next = p.next;
      }

  pub reads_all : length left ≤ 0 → AllRead text old out count
  reads_all h =
      let d : words left ≡ [] = words_none left h in
      let e : words text ≡ r.done = r.split ∙ (ap (λ (ws : List (List ℕ)). r.done ++ ws) d ∙ append-nil r.done) in
      record { count = ap length e ∙ r.long; room = r.room; fit = rw e r.fit; wrote = rw e r.wrote }

  -- the next word, where there is no room for it or it is no number
  stops : (word : List ℕ) (more : List (List ℕ)) → words left ≡ word ∷ more → (count ≡ length old) ⊎ (WordFits word → ⊥) → Stops text old out count
  stops word more e why =
      let s : words text ≡ r.done ++ (word ∷ more) = r.split ∙ ap (λ (ws : List (List ℕ)). r.done ++ ws) e in
      let t : take count (words text) ≡ r.done = ap (take count) s ∙ take_at r.done (word ∷ more) count r.long in
      let g : get_or (words text) count [] ≡ word = ap (λ (ws : List (List ℕ)). get_or ws count []) s ∙ get_or_at r.done word more [] count r.long in
      record {
        within = omega (arith, ap length s, length-append r.done (word ∷ more), r.long);
        room = r.room;
        fit = rw t r.fit;
        wrote = rw t r.wrote;
        why = rw g why;
      }

  pub reads_full : count ≡ length old → 0 < length left → Stops text old out count
  reads_full e h =
      let c : ℕ = get_or left 0 0 in
      let rest : List ℕ = take (length left - 1) (drop 1 left) in
      let f = first_word (c ∷ []) rest (omega arith) in
      stops ((c ∷ []) ++ f.0) f.1 (ap words (first_rest left h) ∙ (words_more [] c rest (r.next h) ∙ f.2)) (inl e)

  pub reads_bad : NoNumber left → Stops text old out count
  reads_bad n = stops n.word n.more n.is (inr n.fits)

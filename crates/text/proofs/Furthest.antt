-- A line that ceases at a place: what comes before the place begins the line of some call.
use Rattle.std.proofs.Common.{◌≡◌, ℕ, zero, suc, ◌+◌, ◌-◌, ◌*◌, ◌<◌, ◌≤◌, max, Bool, true, false, eqb, ltb, leb, ◌⊎◌, List, [], ◌∷◌, ◌++◌, length, take, codes, decimal, sym, refl, ap, ◌∙◌, subst, inl, inr, arith}
use Rattle.std.proofs.lemmas.Fmt.{decimal_digit}
use Rattle.std.proofs.lemmas.List.{append_assoc, append-nil, take_at, length-append}
use Rattle.std.proofs.lemmas.Bool.{and_parts, and_from, ltb-true, lt-ltb, leb-true, eqb-true, eqb-false, cases_lt}
use Rattle.model.specs.Paper.{pick}
use Rattle.model.specs.Calls.{Call, undo}
use Rattle.text.specs.declared.reader.Mark.{Mark}
use Rattle.text.specs.declared.reader.Mark.TheVariants.{Letter, Backslash, Quote, Wrong}
use Rattle.text.specs.Lines.{Step, got, stop, and_then, literal_in, digit, digits_in, number_in, field_in, numbers_in, numbers_line, small, mark_of, letters_in, letter_line, letters_line, tail_in, ended, head_in, shape_of, call_of, call_in, line_of, readable, ceases, limits_in, reading_from, line_reading, BeginsCall}
use Rattle.text.proofs.Whole.{tried}
use Rattle.text.proofs.Steps.{after_mark, letters_cons}
use Rattle.text.proofs.Ends.{IsEnd}
use Rattle.text.proofs.Only.{both, literal_only, one_more, field_only, numbers_only, slash, letter_only, slash_only, tail_line, tail_only, its_line}

no_stop : {A : Type 0} {a : A} {xs ys : List ℕ} → got a xs ≡ stop ys → ⊥
no_stop h = let z : ◌≡◌ {A = ℕ} 0 1 = cc in omega arith

-- xs begins, before `rest`, with a beginning of something of which P holds
abbrev Part : (List ℕ → Type 0) → List ℕ → List ℕ → Type 0
Part P xs rest = (front : List ℕ) × (more : List ℕ) × (xs ≡ front ++ rest) × P (front ++ more)

-- the first of two steps stops, or the second
abbrev Later : {A B : Type 0} → Step A → (A → List ℕ → Step B) → List ℕ → Type 0
Later {A} {B} s f rest = (a : A) × (ys : List ℕ) × (s ≡ got a ys) × (f a ys ≡ stop rest)

either : {A B : Type 0} (s : Step A) (f : A → List ℕ → Step B) (rest : List ℕ) → and_then s f ≡ stop rest → (s ≡ stop rest) ⊎ Later s f rest
either (got a ys) f rest h = inr (a, ys, refl, h)
either (stop ys) f rest h = inl (let e : ys ≡ rest = cc in ap (λ us. stop us) e)

literal_part : (ws xs rest : List ℕ) → literal_in ws xs ≡ stop rest → Part (λ z. z ≡ ws) xs rest
unfolding literal_in
literal_part [] xs rest h = absurd (no_stop h)
literal_part (w ∷ ws) [] rest h = ([], w ∷ ws, cc, refl)
literal_part (w ∷ ws) (x ∷ xs) rest h = go (eqb x w) refl (literal_part ws xs rest) h
  where
    go : (b : Bool) → eqb x w ≡ b → (literal_in ws xs ≡ stop rest → Part (λ z. z ≡ ws) xs rest) → pick b (literal_in ws xs) (stop (x ∷ xs)) ≡ stop rest → Part (λ z. z ≡ w ∷ ws) (x ∷ xs) rest
    go true e more k =
        let p = more k in
        (x ∷ p.0, p.1, ap (λ us. x ∷ us) p.2, ap (λ y. y ∷ (p.0 ++ p.1)) (eqb-true x w e) ∙ ap (λ us. w ∷ us) p.3)
    go false e more k = ([], w ∷ ws, cc, refl)

abbrev Digits : ℕ → List ℕ → List ℕ → Type 0
Digits n xs rest = (front : List ℕ) × (v : ℕ) × (xs ≡ front ++ rest) × (decimal n ++ front ≡ decimal v) × (v < 4294967296)

digits_part : (xs : List ℕ) (n : ℕ) (rest : List ℕ) → 0 < n → n < 4294967296 → digits_in n xs ≡ stop rest → Digits n xs rest
unfolding digits_in
digits_part [] n rest pos fits h = absurd (no_stop h)
digits_part (x ∷ xs) n rest pos fits h = go (digit x) (ltb (n * 10 + (x - 48)) 4294967296) refl refl (digits_part xs (n * 10 + (x - 48)) rest) h
  where
    go : (b c : Bool) → digit x ≡ b → ltb (n * 10 + (x - 48)) 4294967296 ≡ c → (0 < n * 10 + (x - 48) → n * 10 + (x - 48) < 4294967296 → digits_in (n * 10 + (x - 48)) xs ≡ stop rest → Digits (n * 10 + (x - 48)) xs rest) → pick b (pick c (digits_in (n * 10 + (x - 48)) xs) (stop (x ∷ xs))) (got n (x ∷ xs)) ≡ stop rest → Digits n (x ∷ xs) rest
    go true true d c more k =
        let q = and_parts (leb 48 x) (leb x 57) d in
        let fit = ltb-true (n * 10 + (x - 48)) 4294967296 c in
        let pos' : 0 < n * 10 + (x - 48) = omega arith in
        let p = more pos' fit k in
        (x ∷ p.0, p.1, ap (λ us. x ∷ us) p.2, one_more n x p.0 pos (leb-true 48 x q.0) (leb-true x 57 q.1) fit ∙ p.3, p.4)
    go true false d c more k = ([], n, cc, append-nil (decimal n), fits)
    go false c d e more k = absurd (no_stop k)

abbrev IsNumber : List ℕ → Type 0
IsNumber z = (v : ℕ) × (z ≡ decimal v) × (v < 4294967296)

is_zero : IsNumber (48 ∷ [])
is_zero = (0, sym (decimal_digit 0 (omega arith)), omega arith)

number_part : (xs rest : List ℕ) → number_in xs ≡ stop rest → Part IsNumber xs rest
unfolding number_in
number_part [] rest h = ([], 48 ∷ [], cc, is_zero)
number_part (x ∷ xs) rest h = go (eqb x 48) (digit x) refl refl h
  where
    go : (b c : Bool) → eqb x 48 ≡ b → digit x ≡ c → pick b (got 0 xs) (pick c (digits_in (x - 48) xs) (stop (x ∷ xs))) ≡ stop rest → Part IsNumber (x ∷ xs) rest
    go true c e d k = absurd (no_stop k)
    go false true e d k =
        let q = and_parts (leb 48 x) (leb x 57) d in
        let low = leb-true 48 x q.0 in
        let high = leb-true x 57 q.1 in
        let ne = eqb-false x 48 e in
        let pos : 0 < x - 48 = omega arith in
        let fit : x - 48 < 4294967296 = omega arith in
        let ten : x - 48 < 10 = omega arith in
        let back : 48 + (x - 48) ≡ x = omega arith in
        let p = digits_part xs (x - 48) rest pos fit k in (
          x ∷ p.0,
          [],
          ap (λ us. x ∷ us) p.2,
          (p.1, append-nil (x ∷ p.0) ∙ (ap (λ y. y ∷ p.0) (sym back) ∙ (ap (λ ds. ds ++ p.0) (sym (decimal_digit (x - 48) ten)) ∙ p.3)), p.4),
        )
    go false false e d k = ([], 48 ∷ [], cc, is_zero)

-- a part, and what can come after it
longer : (P Q : List ℕ → Type 0) (xs rest after : List ℕ) → ((z : List ℕ) → P z → Q (z ++ after)) → Part P xs rest → Part Q xs rest
longer P Q xs rest after f p = (p.0, p.1 ++ after, p.2, subst Q (append_assoc p.0 p.1 after) (f (p.0 ++ p.1) p.3))

-- what came before, and a part after it
later : (P Q : List ℕ → Type 0) (xs ys rest before : List ℕ) → xs ≡ before ++ ys → ((z : List ℕ) → P z → Q (before ++ z)) → Part P ys rest → Part Q xs rest
later P Q xs ys rest before e f p = (
  before ++ p.0,
  p.1,
  e ∙ (ap (λ us. before ++ us) p.2 ∙ sym (append_assoc before p.0 rest)),
  subst Q (sym (append_assoc before p.0 p.1)) (f (p.0 ++ p.1) p.3),
)

abbrev IsField : List ℕ → Type 0
IsField z = (v : ℕ) × (z ≡ 32 ∷ decimal v) × (v < 4294967296)

field_part : (xs rest : List ℕ) → field_in xs ≡ stop rest → Part IsField xs rest
field_part xs rest h = go (either (literal_in (codes " ") xs) (λ _ ys. number_in ys) rest h)
  where
    go : (literal_in (codes " ") xs ≡ stop rest) ⊎ Later (literal_in (codes " ") xs) (λ _ ys. number_in ys) rest → Part IsField xs rest
    go (inl e) = longer (λ z. z ≡ codes " ") IsField xs rest (decimal 0) (λ z p. (0, ap (λ us. us ++ decimal 0) p, omega arith)) (literal_part (codes " ") xs rest e)
    go (inr p) = later IsNumber IsField xs p.1 rest (codes " ") (literal_only (codes " ") xs p.1 p.2) (λ z q. (q.0, ap (λ us. 32 ∷ us) q.1, q.2)) (number_part p.1 rest p.3)

abbrev zeros : ℕ → List ℕ
zeros zero = []
zeros (suc n) = 0 ∷ zeros n

zeros_small : (n : ℕ) → small (zeros n) ≡ true
unfolding small
zeros_small zero = refl
zeros_small (suc n) = zeros_small n

zeros_length : (n : ℕ) → length (zeros n) ≡ n
zeros_length zero = refl
zeros_length (suc n) = ap suc (zeros_length n)

abbrev AreNumbers : ℕ → List ℕ → Type 0
AreNumbers n z = (ms : List ℕ) × (z ≡ numbers_line ms) × (length ms ≡ n) × (small ms ≡ true)

numbers_part : (n : ℕ) (acc xs rest : List ℕ) → numbers_in n acc xs ≡ stop rest → Part (AreNumbers n) xs rest
unfolding numbers_in numbers_line small
numbers_part zero acc xs rest h = absurd (no_stop h)
numbers_part (suc n) acc xs rest h = go (λ v ys. numbers_part n (acc ++ (v ∷ [])) ys rest) (either (field_in xs) (λ v ys. numbers_in n (acc ++ (v ∷ [])) ys) rest h)
  where
    go : ((v : ℕ) (ys : List ℕ) → numbers_in n (acc ++ (v ∷ [])) ys ≡ stop rest → Part (AreNumbers n) ys rest) → (field_in xs ≡ stop rest) ⊎ Later (field_in xs) (λ v ys. numbers_in n (acc ++ (v ∷ [])) ys) rest → Part (AreNumbers (suc n)) xs rest
    go more (inl e) =
        longer IsField (AreNumbers (suc n)) xs rest (numbers_line (zeros n))
        (λ z p. (p.0 ∷ zeros n, ap (λ us. us ++ numbers_line (zeros n)) p.1, ap suc (zeros_length n), and_from (ltb p.0 4294967296) (small (zeros n)) (lt-ltb p.0 4294967296 p.2) (zeros_small n)))
        (field_part xs rest e)
    go more (inr p) =
        let f = field_only xs p.0 p.1 p.2 in
        later (AreNumbers n) (AreNumbers (suc n)) xs p.1 rest (32 ∷ decimal p.0) f.0
        (λ z q. (p.0 ∷ q.0, ap (λ us. (32 ∷ decimal p.0) ++ us) q.1, ap suc q.2, and_from (ltb p.0 4294967296) (small q.0) (lt-ltb p.0 4294967296 f.1) q.3))
        (more p.0 p.1 p.3)

abbrev AreLetters : Bool → List ℕ → Type 0
AreLetters e z = (ms : List ℕ) × (slash e ++ z ≡ letters_line ms)

-- letters can always be closed
closing : (e : Bool) → (more : List ℕ) × AreLetters e more
unfolding letters_line
closing true = (92 ∷ (34 ∷ []), (92 ∷ [], refl))
closing false = (34 ∷ [], ([], refl))

letters_part : (xs : List ℕ) (e : Bool) (acc rest : List ℕ) → letters_in e acc xs ≡ stop rest → Part (AreLetters e) xs rest
unfolding letters_in letters_line
letters_part [] e acc rest h = let c = closing e in ([], c.0, cc, c.1)
letters_part (x ∷ xs) e acc rest h = go (mark_of e x) refl (λ d bs. letters_part xs d bs rest) (sym (letters_cons e acc x xs (mark_of e x) refl) ∙ h)
  where
    go : (m : Mark) → mark_of e x ≡ m → ((d : Bool) (bs : List ℕ) → letters_in d bs xs ≡ stop rest → Part (AreLetters d) xs rest) → after_mark acc (x ∷ xs) xs m ≡ stop rest → Part (AreLetters e) (x ∷ xs) rest
    go (Letter l) p more k =
        let q = more false (acc ++ (l ∷ [])) k in (
          x ∷ q.0,
          q.1,
          ap (λ us. x ∷ us) q.2,
          (l ∷ q.3.0, sym (append_assoc (slash e) (x ∷ []) (q.0 ++ q.1)) ∙ (ap (λ us. us ++ (q.0 ++ q.1)) (letter_only e x l p) ∙ ap (λ us. letter_line l ++ us) q.3.1)),
        )
    go Backslash p more k =
        let s = slash_only e x p in
        let q = more true acc k in (
          x ∷ q.0,
          q.1,
          ap (λ us. x ∷ us) q.2,
          (q.3.0, ap (λ b. slash b ++ (x ∷ (q.0 ++ q.1))) s.0 ∙ (ap (λ y. y ∷ (q.0 ++ q.1)) s.1 ∙ q.3.1)),
        )
    go Quote p more k = absurd (no_stop k)
    go Wrong p more k = let c = closing e in ([], c.0, cc, c.1)

abbrev IsTail : Bool → List ℕ → Type 0
IsTail b z = (ls : List ℕ) × (z ≡ tail_line b ls)

tail_part : (b : Bool) (ys rest : List ℕ) → tail_in b ys ≡ stop rest → Part (IsTail b) ys rest
tail_part true ys rest h = go (either (literal_in (32 ∷ (34 ∷ [])) ys) (λ _ us. letters_in false [] us) rest h)
  where
    go : (literal_in (32 ∷ (34 ∷ [])) ys ≡ stop rest) ⊎ Later (literal_in (32 ∷ (34 ∷ [])) ys) (λ _ us. letters_in false [] us) rest → Part (IsTail true) ys rest
    go (inl e) = longer (λ z. z ≡ 32 ∷ (34 ∷ [])) (IsTail true) ys rest (letters_line []) (λ z p. ([], ap (λ us. us ++ letters_line []) p)) (literal_part (32 ∷ (34 ∷ [])) ys rest e)
    go (inr p) = later (AreLetters false) (IsTail true) ys p.1 rest (32 ∷ (34 ∷ [])) (literal_only (32 ∷ (34 ∷ [])) ys p.1 p.2) (λ z q. (q.0, ap (λ us. 32 ∷ (34 ∷ us)) q.1)) (letters_part p.1 false [] rest p.3)
tail_part false ys rest h = absurd (no_stop h)

ended_rest : {A : Type 0} (a : A) (zs rest : List ℕ) → ended a zs ≡ stop rest → zs ≡ rest
ended_rest a [] rest h = absurd (no_stop h)
ended_rest a (z ∷ zs) rest h = cc

abbrev IsCall : List ℕ → Type 0
IsCall z = (c : Call) × (readable c ≡ true) × (z ≡ line_of c)

module _ (k : ℕ) (lt : k < 12) where
  is_call : (ns ls : List ℕ) → length ns ≡ (shape_of k).count → small ns ≡ true → IsCall ((shape_of k).word ++ (numbers_line ns ++ tail_line (shape_of k).lettered ls))
  is_call ns ls e sm = let own = its_line k ns ls lt e in (call_of k ns ls, own.1 ∙ sm, own.0)

  -- after the word and the numbers
  after_numbers : (xs ys rest ns : List ℕ) → xs ≡ (shape_of k).word ++ (numbers_line ns ++ ys) → length ns ≡ (shape_of k).count → small ns ≡ true → Part (IsTail (shape_of k).lettered) ys rest → Part IsCall xs rest
  after_numbers xs ys rest ns e len sm p =
      let w : List ℕ = (shape_of k).word in
      later (IsTail (shape_of k).lettered) IsCall xs ys rest (w ++ numbers_line ns) (e ∙ sym (append_assoc w (numbers_line ns) ys))
      (λ z q. subst IsCall (sym (append_assoc w (numbers_line ns) z ∙ ap (λ u. w ++ (numbers_line ns ++ u)) q.1)) (is_call ns q.0 len sm))
      p

  head_part : (xs rest : List ℕ) → head_in (shape_of k).word (shape_of k).count xs ≡ stop rest → Part IsCall xs rest
  head_part xs rest h = go (either (literal_in (shape_of k).word xs) (λ _ ys. numbers_in (shape_of k).count [] ys) rest h)
    where
      go : (literal_in (shape_of k).word xs ≡ stop rest) ⊎ Later (literal_in (shape_of k).word xs) (λ _ ys. numbers_in (shape_of k).count [] ys) rest → Part IsCall xs rest
      go (inl e) =
          let after : List ℕ = numbers_line (zeros (shape_of k).count) ++ tail_line (shape_of k).lettered [] in
          longer (λ z. z ≡ (shape_of k).word) IsCall xs rest after
          (λ z p. subst (λ u. IsCall (u ++ after)) (sym p) (is_call (zeros (shape_of k).count) [] (zeros_length (shape_of k).count) (zeros_small (shape_of k).count)))
          (literal_part (shape_of k).word xs rest e)
      go (inr p) =
          let after : List ℕ = tail_line (shape_of k).lettered [] in
          later (λ z. IsCall ((shape_of k).word ++ z)) IsCall xs p.1 rest (shape_of k).word (literal_only (shape_of k).word xs p.1 p.2) (λ z q. q)
          (longer (AreNumbers (shape_of k).count) (λ z. IsCall ((shape_of k).word ++ z)) p.1 rest after
          (λ z q. subst (λ u. IsCall ((shape_of k).word ++ (u ++ after))) (sym q.1) (is_call q.0 [] q.2 q.3))
          (numbers_part (shape_of k).count [] p.1 rest p.3))

  call_part : (xs rest : List ℕ) → call_in k xs ≡ stop rest → Part IsCall xs rest
  call_part xs rest h = go (either (head_in (shape_of k).word (shape_of k).count xs) (λ ns ys. and_then (tail_in (shape_of k).lettered ys) (λ ls zs. ended (call_of k ns ls) zs)) rest h)
    where
      ending : (ns ys : List ℕ) → (tail_in (shape_of k).lettered ys ≡ stop rest) ⊎ Later (tail_in (shape_of k).lettered ys) (λ ls zs. ended (call_of k ns ls) zs) rest → Part (IsTail (shape_of k).lettered) ys rest
      ending ns ys (inl e) = tail_part (shape_of k).lettered ys rest e
      ending ns ys (inr p) =
          let t : List ℕ = tail_line (shape_of k).lettered p.0 in
          (t, [], tail_only (shape_of k).lettered ys p.0 p.1 p.2 ∙ ap (λ us. t ++ us) (ended_rest (call_of k ns p.0) p.1 rest p.3), (p.0, append-nil t))

      go : (head_in (shape_of k).word (shape_of k).count xs ≡ stop rest) ⊎ Later (head_in (shape_of k).word (shape_of k).count xs) (λ ns ys. and_then (tail_in (shape_of k).lettered ys) (λ ls zs. ended (call_of k ns ls) zs)) rest → Part IsCall xs rest
      go (inl e) = head_part xs rest e
      go (inr p) =
          let q = both (literal_in (shape_of k).word xs) (λ _ us. numbers_in (shape_of k).count [] us) p.0 p.1 p.2 in
          let m = numbers_only (shape_of k).count [] q.left p.0 p.1 q.second in
          after_numbers xs p.1 rest m.0 (literal_only (shape_of k).word xs q.left q.first ∙ ap (λ us. (shape_of k).word ++ us) m.2) m.3 m.4
          (ending p.0 p.1 (either (tail_in (shape_of k).lettered p.1) (λ ls zs. ended (call_of k p.0 ls) zs) rest p.3))

pub call_end : (k : ℕ) → k < 12 → (xs rest : List ℕ) → call_in k xs ≡ stop rest → IsEnd rest xs
call_end k lt xs rest h = let p = call_part k lt xs rest h in (p.0, p.2)

pub limits_end : (xs rest : List ℕ) → limits_in xs ≡ stop rest → IsEnd rest xs
limits_end xs rest h = go (either (head_in (codes "limits") 3 xs) (λ ns ys. ended ns ys) rest h)
  where
    in_head : (literal_in (codes "limits") xs ≡ stop rest) ⊎ Later (literal_in (codes "limits") xs) (λ _ ys. numbers_in 3 [] ys) rest → IsEnd rest xs
    in_head (inl e) = let p = literal_part (codes "limits") xs rest e in (p.0, p.2)
    in_head (inr p) =
        let q = numbers_part 3 [] p.1 rest p.3 in
        (codes "limits" ++ q.0, literal_only (codes "limits") xs p.1 p.2 ∙ (ap (λ us. codes "limits" ++ us) q.2 ∙ sym (append_assoc (codes "limits") q.0 rest)))

    go : (head_in (codes "limits") 3 xs ≡ stop rest) ⊎ Later (head_in (codes "limits") 3 xs) (λ ns ys. ended ns ys) rest → IsEnd rest xs
    go (inl e) = in_head (either (literal_in (codes "limits") xs) (λ _ ys. numbers_in 3 [] ys) rest e)
    go (inr p) =
        let q = both (literal_in (codes "limits") xs) (λ _ ys. numbers_in 3 [] ys) p.0 p.1 p.2 in
        let m = numbers_only 3 [] q.left p.0 p.1 q.second in
        let e = ended_rest p.0 p.1 rest p.3 in
        (codes "limits" ++ numbers_line m.0, literal_only (codes "limits") xs q.left q.first ∙ (ap (λ us. codes "limits" ++ us) (m.2 ∙ ap (λ us. numbers_line m.0 ++ us) e) ∙ sym (append_assoc (codes "limits") (numbers_line m.0) rest)))

-- from what is left of the line to the place
begins_at : (xs rest : List ℕ) → Part IsCall xs rest → BeginsCall xs (length xs - length rest)
begins_at xs rest p =
    let whole = ap length p.2 ∙ length-append p.0 rest in
    let at : length xs - length rest ≡ length p.0 = omega arith in
    let front : take (length xs - length rest) xs ≡ p.0 = ap (λ i. take i xs) at ∙ (ap (take (length p.0)) p.2 ∙ take_at p.0 rest (length p.0) refl) in
    (omega arith, (p.3.0, p.1, p.3.1, sym p.3.2 ∙ ap (λ us. us ++ p.1) (sym front)))

furthest : (xs : List ℕ) (i j : ℕ) → BeginsCall xs i → BeginsCall xs j → BeginsCall xs (max i j)
furthest xs i j p q = go (cases_lt i j)
  where
    go : (i < j) ⊎ (j ≤ i) → BeginsCall xs (max i j)
    go (inl h) = let e : j ≡ max i j = omega arith in subst (BeginsCall xs) e q
    go (inr h) = let e : i ≡ max i j = omega arith in subst (BeginsCall xs) e p

reading_begins : (n k far : ℕ) (xs : List ℕ) (i : ℕ) → n + k ≡ 12 → BeginsCall xs far → reading_from n k far xs ≡ ceases i → BeginsCall xs i
unfolding reading_from
reading_begins zero k far xs i e p h = let same : far ≡ i = cc in subst (BeginsCall xs) same p
reading_begins (suc n) k far xs i e p h = go (call_in k xs) refl (λ f. reading_begins n (k + 1) f xs i (omega arith)) h
  where
    go : (s : Step Call) → call_in k xs ≡ s → ((f : ℕ) → BeginsCall xs f → reading_from n (k + 1) f xs ≡ ceases i → BeginsCall xs i) → tried n k far xs s ≡ ceases i → BeginsCall xs i
    go (got d rest) q more t = absurd (let z : ◌≡◌ {A = ℕ} 0 1 = cc in omega arith)
    go (stop rest) q more t = more _ (furthest xs far (length xs - length rest) p (begins_at xs rest (call_part k (omega arith) xs rest q))) t

pub place_begins : (xs : List ℕ) (i : ℕ) → line_reading xs ≡ ceases i → BeginsCall xs i
unfolding readable
place_begins xs i h = reading_begins 12 0 0 xs i refl (omega arith, (undo, line_of undo, refl, refl)) h

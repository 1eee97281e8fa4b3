-- Only the line of a call reads as that call.
use Rattle.std.proofs.Common.{◌≡◌, ℕ, zero, suc, ◌+◌, ◌-◌, ◌*◌, ◌/◌, ◌%◌, ◌^◌, ◌<◌, ◌≤◌, Bool, true, false, eqb, ltb, leb, List, [], ◌∷◌, ◌++◌, length, codes, decimal, sym, refl, ap, ◌∙◌, subst, arith}
use Rattle.std.proofs.lemmas.Fmt.{decimal_digit, decimal_step}
use Rattle.std.proofs.lemmas.List.{append_assoc, append-nil}
use Rattle.std.proofs.lemmas.Bool.{and_parts, and_from, ltb-true, lt-ltb, leb-true, eqb-true, eqb-false}
use Rattle.model.specs.Paper.{pick}
use Rattle.model.specs.Calls.{Call}
use Rattle.text.specs.declared.reader.Mark.{Mark}
use Rattle.text.specs.declared.reader.Mark.TheVariants.{Letter, Backslash, Quote, Wrong}
use Rattle.text.specs.Lines.{Step, got, stop, and_then, literal_in, digit, digits_in, number_in, field_in, numbers_in, numbers_line, small, mark_of, letters_in, letter_line, letters_line, quoted_line, tail_in, ended, head_in, shape_of, call_of, call_in, means, reading_from, line_reading, line_of, readable}
use Rattle.text.proofs.Steps.{after_mark, letters_cons}
use Rattle.text.proofs.Whole.{firsts, spread, tried}

-- a step that stops reads nothing
pub no_got : {A : Type 0} {a : A} {xs ys : List ℕ} → stop xs ≡ got a ys → ⊥
no_got h = let z : ◌≡◌ {A = ℕ} 0 1 = cc in omega arith

-- two steps, one after the other
pub record Both {A B : Type 0} (s : Step A) (f : A → List ℕ → Step B) (b : B) (zs : List ℕ) : Type 0 where
  pub value : A
  pub left : List ℕ
  pub first : s ≡ got value left
  pub second : f value left ≡ got b zs

pub both : {A B : Type 0} (s : Step A) (f : A → List ℕ → Step B) (b : B) (zs : List ℕ) → and_then s f ≡ got b zs → Both s f b zs
both (got a ys) f b zs h = record { value = a; left = ys; first = refl; second = h }
both (stop ys) f b zs h = absurd (no_got h)

pub literal_only : (ws xs rest : List ℕ) → literal_in ws xs ≡ got tt rest → xs ≡ ws ++ rest
unfolding literal_in
literal_only [] xs rest h = cc
literal_only (w ∷ ws) [] rest h = absurd (no_got h)
literal_only (w ∷ ws) (x ∷ xs) rest h = go (eqb x w) refl (literal_only ws xs rest) h
  where
    go : (b : Bool) → eqb x w ≡ b → (literal_in ws xs ≡ got tt rest → xs ≡ ws ++ rest) → pick b (literal_in ws xs) (stop (x ∷ xs)) ≡ got tt rest → x ∷ xs ≡ w ∷ (ws ++ rest)
    go true e more k = let d = eqb-true x w e in let t = more k in cc
    go false e more k = absurd (no_got k)

-- a number that is read, from its first digit on
abbrev Written : ℕ → List ℕ → ℕ → List ℕ → Type 0
Written n xs v rest = (decimal n ++ xs ≡ decimal v ++ rest) × (v < 4294967296)

pub one_more : (n x : ℕ) (xs : List ℕ) → 0 < n → 48 ≤ x → x ≤ 57 → n * 10 + (x - 48) < 4294967296 → decimal n ++ (x ∷ xs) ≡ decimal (n * 10 + (x - 48)) ++ xs
one_more n x xs pos low high fits =
    let m : ℕ = n * 10 + (x - 48) in
    let ten : 10 ≤ m = omega arith in
    let wide : m < 2 ^ 64 = omega arith in
    let q : n * 10 + (x - 48) ≡ m = refl in
    let front : (n * 10 + (x - 48)) / 10 ≡ n = omega arith in
    let last : 48 + (n * 10 + (x - 48)) % 10 ≡ x = omega arith in
    sym (ap (λ ds. ds ++ xs) (decimal_step m ten wide ∙ (ap (λ k. decimal k ++ ((48 + m % 10) ∷ [])) front ∙ ap (λ d. decimal n ++ (d ∷ [])) last)) ∙ append_assoc (decimal n) (x ∷ []) xs)

digits_only : (xs : List ℕ) (n v : ℕ) (rest : List ℕ) → 0 < n → n < 4294967296 → digits_in n xs ≡ got v rest → Written n xs v rest
unfolding digits_in
digits_only [] n v rest pos fits h =
    let e : n ≡ v = cc in
    let r : [] ≡ rest = cc in
    (ap (λ m. decimal m ++ []) e ∙ ap (λ ys. decimal v ++ ys) r, omega arith)
digits_only (x ∷ xs) n v rest pos fits h = go (digit x) (ltb (n * 10 + (x - 48)) 4294967296) refl refl (digits_only xs (n * 10 + (x - 48)) v rest) h
  where
    go : (b c : Bool) → digit x ≡ b → ltb (n * 10 + (x - 48)) 4294967296 ≡ c → (0 < n * 10 + (x - 48) → n * 10 + (x - 48) < 4294967296 → digits_in (n * 10 + (x - 48)) xs ≡ got v rest → Written (n * 10 + (x - 48)) xs v rest) → pick b (pick c (digits_in (n * 10 + (x - 48)) xs) (stop (x ∷ xs))) (got n (x ∷ xs)) ≡ got v rest → Written n (x ∷ xs) v rest
    go true true d c more k =
        let p = and_parts (leb 48 x) (leb x 57) d in
        let fit = ltb-true (n * 10 + (x - 48)) 4294967296 c in
        let pos' : 0 < n * 10 + (x - 48) = omega arith in
        let w = more pos' fit k in
        (one_more n x xs pos (leb-true 48 x p.0) (leb-true x 57 p.1) fit ∙ w.0, w.1)
    go true false d c more k = absurd (no_got k)
    go false c d e more k =
        let eq : n ≡ v = cc in
        let r : x ∷ xs ≡ rest = cc in
        (ap (λ m. decimal m ++ (x ∷ xs)) eq ∙ ap (λ ys. decimal v ++ ys) r, omega arith)

number_only : (xs : List ℕ) (v : ℕ) (rest : List ℕ) → number_in xs ≡ got v rest → (xs ≡ decimal v ++ rest) × (v < 4294967296)
unfolding number_in
number_only [] v rest h = absurd (no_got h)
number_only (x ∷ xs) v rest h = go (eqb x 48) (digit x) refl refl h
  where
    go : (b c : Bool) → eqb x 48 ≡ b → digit x ≡ c → pick b (got 0 xs) (pick c (digits_in (x - 48) xs) (stop (x ∷ xs))) ≡ got v rest → (x ∷ xs ≡ decimal v ++ rest) × (v < 4294967296)
    go true c e d k =
        let z : 0 ≡ v = cc in
        let r : xs ≡ rest = cc in
        let x48 = eqb-true x 48 e in
        let dec : decimal 0 ≡ 48 ∷ [] = decimal_digit 0 (omega arith) in
        (ap (λ y. y ∷ xs) x48 ∙ (ap (λ ds. ds ++ xs) (sym dec) ∙ (ap (λ m. decimal m ++ xs) z ∙ ap (λ ys. decimal v ++ ys) r)), omega arith)
    go false true e d k =
        let p = and_parts (leb 48 x) (leb x 57) d in
        let low = leb-true 48 x p.0 in
        let high = leb-true x 57 p.1 in
        let ne = eqb-false x 48 e in
        let pos : 0 < x - 48 = omega arith in
        let fit : x - 48 < 4294967296 = omega arith in
        let ten : x - 48 < 10 = omega arith in
        let back : 48 + (x - 48) ≡ x = omega arith in
        let w = digits_only xs (x - 48) v rest pos fit k in
        (ap (λ y. y ∷ xs) (sym back) ∙ (ap (λ ds. ds ++ xs) (sym (decimal_digit (x - 48) ten)) ∙ w.0), w.1)
    go false false e d k = absurd (no_got k)

pub field_only : (xs : List ℕ) (v : ℕ) (rest : List ℕ) → field_in xs ≡ got v rest → (xs ≡ 32 ∷ (decimal v ++ rest)) × (v < 4294967296)
field_only xs v rest h =
    let b = both (literal_in (codes " ") xs) (λ _ ys. number_in ys) v rest h in
    let n = number_only b.left v rest b.second in
    (literal_only (codes " ") xs b.left b.first ∙ ap (λ ys. 32 ∷ ys) n.0, n.1)

-- n numbers that are read after those in acc
abbrev pub Numbered : ℕ → List ℕ → List ℕ → List ℕ → List ℕ → Type 0
Numbered n acc xs ns rest = (ms : List ℕ) × (ns ≡ acc ++ ms) × (xs ≡ numbers_line ms ++ rest) × (length ms ≡ n) × (small ms ≡ true)

pub numbers_only : (n : ℕ) (acc xs ns rest : List ℕ) → numbers_in n acc xs ≡ got ns rest → Numbered n acc xs ns rest
unfolding numbers_in numbers_line small
numbers_only zero acc xs ns rest h =
    let e : acc ≡ ns = cc in
    let r : xs ≡ rest = cc in
    ([], sym e ∙ sym (append-nil acc), r, refl, refl)
numbers_only (suc n) acc xs ns rest h =
    let b = both (field_in xs) (λ v ys. numbers_in n (acc ++ (v ∷ [])) ys) ns rest h in
    let v : ℕ = b.value in
    let f = field_only xs v b.left b.first in
    let m = numbers_only n (acc ++ (v ∷ [])) b.left ns rest b.second in (
      v ∷ m.0,
      m.1 ∙ append_assoc acc (v ∷ []) m.0,
      f.0 ∙ ap (λ ys. 32 ∷ ys) (ap (λ ys. decimal v ++ ys) m.2 ∙ sym (append_assoc (decimal v) (numbers_line m.0) rest)),
      ap suc m.3,
      and_from (ltb v 4294967296) (small m.0) (lt-ltb v 4294967296 f.1) m.4,
    )

-- the backslash that came before, if any
abbrev pub slash : Bool → List ℕ
slash true = 92 ∷ []
slash false = []

no_letter : {l : ℕ} → Wrong ≡ Letter l → ⊥
no_letter h = let z : ◌≡◌ {A = ℕ} 0 1 = cc in omega arith

pub letter_only : (e : Bool) (x l : ℕ) → mark_of e x ≡ Letter l → slash e ++ (x ∷ []) ≡ letter_line l
letter_only true x l h = go (eqb x 110) (eqb x 34) (eqb x 92) refl refl refl h
  where
    go : (a b c : Bool) → eqb x 110 ≡ a → eqb x 34 ≡ b → eqb x 92 ≡ c → pick a (Letter 10) (pick b (Letter 34) (pick c (Letter 92) Wrong)) ≡ Letter l → 92 ∷ (x ∷ []) ≡ letter_line l
    go true b c p q r k = let e : 10 ≡ l = cc in ap (λ y. 92 ∷ (y ∷ [])) (eqb-true x 110 p) ∙ ap letter_line e
    go false true c p q r k = let e : 34 ≡ l = cc in ap (λ y. 92 ∷ (y ∷ [])) (eqb-true x 34 q) ∙ ap letter_line e
    go false false true p q r k = let e : 92 ≡ l = cc in ap (λ y. 92 ∷ (y ∷ [])) (eqb-true x 92 r) ∙ ap letter_line e
    go false false false p q r k = absurd (no_letter k)
letter_only false x l h = go (eqb x 34) (eqb x 92) (eqb x 10) refl refl refl h
  where
    go : (a b c : Bool) → eqb x 34 ≡ a → eqb x 92 ≡ b → eqb x 10 ≡ c → pick a Quote (pick b Backslash (pick c Wrong (Letter x))) ≡ Letter l → x ∷ [] ≡ letter_line l
    go true b c p q r k = absurd (let z : ◌≡◌ {A = ℕ} 0 1 = cc in omega arith)
    go false true c p q r k = absurd (let z : ◌≡◌ {A = ℕ} 0 1 = cc in omega arith)
    go false false true p q r k = absurd (no_letter k)
    go false false false p q r k =
        let e : x ≡ l = cc in
        let own : letter_line x ≡ x ∷ [] = rw (r, p, q) in
        sym own ∙ ap letter_line e

pub slash_only : (e : Bool) (x : ℕ) → mark_of e x ≡ Backslash → (e ≡ false) × (x ≡ 92)
slash_only true x h = absurd (go (eqb x 110) (eqb x 34) (eqb x 92) h)
  where
    go : (a b c : Bool) → pick a (Letter 10) (pick b (Letter 34) (pick c (Letter 92) Wrong)) ≡ Backslash → ⊥
    go true b c k = let z : ◌≡◌ {A = ℕ} 0 1 = cc in omega arith
    go false true c k = let z : ◌≡◌ {A = ℕ} 0 1 = cc in omega arith
    go false false true k = let z : ◌≡◌ {A = ℕ} 0 1 = cc in omega arith
    go false false false k = let z : ◌≡◌ {A = ℕ} 0 1 = cc in omega arith
slash_only false x h = go (eqb x 34) (eqb x 92) (eqb x 10) refl h
  where
    go : (a b c : Bool) → eqb x 92 ≡ b → pick a Quote (pick b Backslash (pick c Wrong (Letter x))) ≡ Backslash → (false ≡ false) × (x ≡ 92)
    go true b c q k = absurd (let z : ◌≡◌ {A = ℕ} 0 1 = cc in omega arith)
    go false true c q k = (refl, eqb-true x 92 q)
    go false false true q k = absurd (let z : ◌≡◌ {A = ℕ} 0 1 = cc in omega arith)
    go false false false q k = absurd (let z : ◌≡◌ {A = ℕ} 0 1 = cc in omega arith)

quote_only : (e : Bool) (x : ℕ) → mark_of e x ≡ Quote → (e ≡ false) × (x ≡ 34)
quote_only true x h = absurd (go (eqb x 110) (eqb x 34) (eqb x 92) h)
  where
    go : (a b c : Bool) → pick a (Letter 10) (pick b (Letter 34) (pick c (Letter 92) Wrong)) ≡ Quote → ⊥
    go true b c k = let z : ◌≡◌ {A = ℕ} 0 1 = cc in omega arith
    go false true c k = let z : ◌≡◌ {A = ℕ} 0 1 = cc in omega arith
    go false false true k = let z : ◌≡◌ {A = ℕ} 0 1 = cc in omega arith
    go false false false k = let z : ◌≡◌ {A = ℕ} 0 1 = cc in omega arith
quote_only false x h = go (eqb x 34) (eqb x 92) (eqb x 10) refl h
  where
    go : (a b c : Bool) → eqb x 34 ≡ a → pick a Quote (pick b Backslash (pick c Wrong (Letter x))) ≡ Quote → (false ≡ false) × (x ≡ 34)
    go true b c q k = (refl, eqb-true x 34 q)
    go false true c q k = absurd (let z : ◌≡◌ {A = ℕ} 0 1 = cc in omega arith)
    go false false true q k = absurd (let z : ◌≡◌ {A = ℕ} 0 1 = cc in omega arith)
    go false false false q k = absurd (let z : ◌≡◌ {A = ℕ} 0 1 = cc in omega arith)

-- letters that are read after those in acc
abbrev Lettered : Bool → List ℕ → List ℕ → List ℕ → List ℕ → Type 0
Lettered e acc xs ls rest = (ms : List ℕ) × (ls ≡ acc ++ ms) × (slash e ++ xs ≡ letters_line ms ++ rest)

letters_only : (xs : List ℕ) (e : Bool) (acc ls rest : List ℕ) → letters_in e acc xs ≡ got ls rest → Lettered e acc xs ls rest
unfolding letters_in letters_line
letters_only [] e acc ls rest h = absurd (no_got h)
letters_only (x ∷ xs) e acc ls rest h = go (mark_of e x) refl (λ d bs. letters_only xs d bs ls rest) (sym (letters_cons e acc x xs (mark_of e x) refl) ∙ h)
  where
    go : (m : Mark) → mark_of e x ≡ m → ((d : Bool) (bs : List ℕ) → letters_in d bs xs ≡ got ls rest → Lettered d bs xs ls rest) → after_mark acc (x ∷ xs) xs m ≡ got ls rest → Lettered e acc (x ∷ xs) ls rest
    go (Letter l) p more k =
        let m = more false (acc ++ (l ∷ [])) k in (
          l ∷ m.0,
          m.1 ∙ append_assoc acc (l ∷ []) m.0,
          sym (append_assoc (slash e) (x ∷ []) xs)
              ∙ (ap (λ ys. ys ++ xs) (letter_only e x l p) ∙ (ap (λ ys. letter_line l ++ ys) m.2 ∙ sym (append_assoc (letter_line l) (letters_line m.0) rest))),
        )
    go Backslash p more k =
        let s = slash_only e x p in
        let m = more true acc k in
        (m.0, m.1, ap (λ b. slash b ++ (x ∷ xs)) s.0 ∙ (ap (λ y. y ∷ xs) s.1 ∙ m.2))
    go Quote p more k =
        let s = quote_only e x p in
        let a : acc ≡ ls = cc in
        let r : xs ≡ rest = cc in
        ([], sym a ∙ sym (append-nil acc), ap (λ b. slash b ++ (x ∷ xs)) s.0 ∙ (ap (λ y. y ∷ xs) s.1 ∙ ap (λ ys. 34 ∷ ys) r))
    go Wrong p more k = absurd (no_got k)

-- the letters of a line, where it has any
abbrev pub tail_line : Bool → List ℕ → List ℕ
tail_line true ls = quoted_line ls
tail_line false ls = []

pub tail_only : (b : Bool) (ys ls zs : List ℕ) → tail_in b ys ≡ got ls zs → ys ≡ tail_line b ls ++ zs
tail_only true ys ls zs h =
    let q = both (literal_in (32 ∷ (34 ∷ [])) ys) (λ _ us. letters_in false [] us) ls zs h in
    let m = letters_only q.left false [] ls zs q.second in
    literal_only (32 ∷ (34 ∷ [])) ys q.left q.first ∙ ap (λ us. 32 ∷ (34 ∷ us)) (m.2 ∙ ap (λ us. letters_line us ++ zs) (sym m.1))
tail_only false ys ls zs h = cc

ended_only : {A : Type 0} (a c : A) (zs rest : List ℕ) → ended a zs ≡ got c rest → (zs ≡ []) × (a ≡ c)
ended_only a c [] rest h = (refl, cc)
ended_only a c (z ∷ zs) rest h = absurd (no_got h)

-- the line of a call by its number, its numbers and its letters; and that it can be read
abbrev pub ItsLine : ℕ → List ℕ → List ℕ → Type 0
ItsLine k ns ls = ((shape_of k).word ++ (numbers_line ns ++ tail_line (shape_of k).lettered ls) ≡ line_of (call_of k ns ls)) × (readable (call_of k ns ls) ≡ small ns)

plain_line : (w ns ms : List ℕ) → ns ≡ ms → w ++ (numbers_line ns ++ []) ≡ w ++ numbers_line ms
plain_line w ns ms e = ap (λ us. w ++ us) (append-nil (numbers_line ns) ∙ ap numbers_line e)

none_line : (w ns : List ℕ) → ns ≡ [] → w ++ (numbers_line ns ++ []) ≡ w
unfolding numbers_line
none_line w ns e = plain_line w ns [] e ∙ append-nil w

none_small : (ns : List ℕ) → ns ≡ [] → true ≡ small ns
unfolding small
none_small ns e = ap small (sym e)

pub its_line : (k : ℕ) (ns ls : List ℕ) → k < 12 → length ns ≡ (shape_of k).count → ItsLine k ns ls
unfolding call_of line_of readable
its_line zero ns ls h e = let s = spread 3 ns e in (ap (λ ms. codes "put" ++ (numbers_line ms ++ quoted_line ls)) s, ap small (sym s))
its_line (suc zero) ns ls h e = let s = spread 3 ns e in (plain_line (codes "strike") ns (firsts 0 3 ns) s, ap small (sym s))
its_line (suc (suc zero)) ns ls h e = let s = spread 1 ns e in (plain_line (codes "accept") ns (firsts 0 1 ns) s, ap small (sym s))
its_line (suc (suc (suc zero))) ns ls h e = let s = spread 1 ns e in (plain_line (codes "reject") ns (firsts 0 1 ns) s, ap small (sym s))
its_line (suc (suc (suc (suc zero)))) ns ls h e = let s = spread 3 ns e in (plain_line (codes "style") ns (firsts 0 3 ns) s, ap small (sym s))
its_line (suc (suc (suc (suc (suc zero))))) ns ls h e = let s = spread 0 ns e in (none_line (codes "undo") ns s, none_small ns s)
its_line (suc (suc (suc (suc (suc (suc zero)))))) ns ls h e = let s = spread 0 ns e in (none_line (codes "redo") ns s, none_small ns s)
its_line (suc (suc (suc (suc (suc (suc (suc zero))))))) ns ls h e = let s = spread 4 ns e in (plain_line (codes "show") ns (firsts 0 4 ns) s, ap small (sym s))
its_line (suc (suc (suc (suc (suc (suc (suc (suc zero)))))))) ns ls h e = let s = spread 2 ns e in (ap (λ ms. codes "find" ++ (numbers_line ms ++ quoted_line ls)) s, ap small (sym s))
its_line (suc (suc (suc (suc (suc (suc (suc (suc (suc zero))))))))) ns ls h e = let s = spread 1 ns e in (plain_line (codes "count") ns (firsts 0 1 ns) s, ap small (sym s))
its_line (suc (suc (suc (suc (suc (suc (suc (suc (suc (suc zero)))))))))) ns ls h e = let s = spread 1 ns e in (plain_line (codes "change") ns (firsts 0 1 ns) s, ap small (sym s))
its_line (suc (suc (suc (suc (suc (suc (suc (suc (suc (suc (suc zero))))))))))) ns ls h e = let s = spread 2 ns e in (plain_line (codes "save") ns (firsts 0 2 ns) s, ap small (sym s))
its_line (suc (suc (suc (suc (suc (suc (suc (suc (suc (suc (suc (suc k)))))))))))) ns ls h e = absurd (omega arith)

-- what is read is a call that a line can say, and the line is that call's
abbrev ItsOwn : List ℕ → Call → Type 0
ItsOwn xs c = (readable c ≡ true) × (xs ≡ line_of c)

call_only : (k : ℕ) (xs : List ℕ) (c : Call) (rest : List ℕ) → k < 12 → call_in k xs ≡ got c rest → ItsOwn xs c
call_only k xs c rest lt h =
    let w : List ℕ = (shape_of k).word in
    let n : ℕ = (shape_of k).count in
    let b : Bool = (shape_of k).lettered in
    let p = both (head_in w n xs) (λ ns ys. and_then (tail_in b ys) (λ ls zs. ended (call_of k ns ls) zs)) c rest h in
    let ns : List ℕ = p.value in
    let q = both (literal_in w xs) (λ _ ys. numbers_in n [] ys) ns p.left p.first in
    let m = numbers_only n [] q.left ns p.left q.second in
    let t = both (tail_in b p.left) (λ ls zs. ended (call_of k ns ls) zs) c rest p.second in
    let ls : List ℕ = t.value in
    let e = ended_only (call_of k ns ls) c t.left rest t.second in
    let own = its_line k ns ls lt (ap length m.1 ∙ m.3) in (
      ap readable (sym e.1) ∙ (own.1 ∙ (ap small m.1 ∙ m.4)),
      literal_only w xs q.left q.first
          ∙ (ap (λ us. w ++ us) (m.2 ∙ (ap (λ us. numbers_line us ++ p.left) (sym m.1) ∙ ap (λ us. numbers_line ns ++ us) (tail_only b p.left ls t.left t.first ∙ (ap (λ us. tail_line b ls ++ us) e.0 ∙ append-nil (tail_line b ls)))))
          ∙ (own.0 ∙ ap line_of e.1)),
    )

reading_only : (n k far : ℕ) (xs : List ℕ) (c : Call) → n + k ≡ 12 → reading_from n k far xs ≡ means c → ItsOwn xs c
unfolding reading_from
reading_only zero k far xs c e h = absurd (let z : ◌≡◌ {A = ℕ} 0 1 = cc in omega arith)
reading_only (suc n) k far xs c e h = go (call_in k xs) refl (λ f. reading_only n (k + 1) f xs c (omega arith)) h
  where
    go : (s : Step Call) → call_in k xs ≡ s → ((f : ℕ) → reading_from n (k + 1) f xs ≡ means c → ItsOwn xs c) → tried n k far xs s ≡ means c → ItsOwn xs c
    go (got d rest) p more t = let same : d ≡ c = cc in subst (ItsOwn xs) same (call_only k xs d rest (omega arith) p)
    go (stop rest) p more t = more _ t

pub only_line : (xs : List ℕ) (c : Call) → line_reading xs ≡ means c → ItsOwn xs c
only_line xs c h = reading_only 12 0 0 xs c refl h

-- How a match grows by a letter or falls back to a border, and how the table of borders is filled. Assumes nothing.
use Rattle.std.proofs.Common.{◌≡◌, ℕ, zero, suc, ◌+◌, ◌-◌, ◌<◌, ◌≤◌, ◌≢◌, List, [], ◌∷◌, ◌++◌, length, get_or, take, drop, set, sym, ap, ◌∙◌, subst, arith, below_more}
use Rattle.std.proofs.lemmas.List.{append-nil, append_assoc, length-append, length-drop, length-take-le, take_more, drop_all, drop-append-le, get_or-set_same, get_or-set_other, same_from_push}
use Rattle.finder.specs.Match.{Ends, Matches, Step, Border, Table}

ends_none : (ls t : List ℕ) → Ends ls t 0
ends_none ls t = record { fits = omega arith; front = t; split = sym (append-nil t) }

pub ends_length : {ls t : List ℕ} {k : ℕ} → Ends ls t k → k ≤ length t
ends_length {ls} {t} {k} e =
    let a = ap length e.split in
    omega (arith, length-append e.front (take k ls), length-take-le k ls e.fits)

pub matches_none : (ls : List ℕ) → Matches ls [] 0
matches_none ls = record { ends = ends_none ls []; longest = λ j e. ends_length e }

ends_more : {ls t : List ℕ} {j : ℕ} → Ends ls t j → j < length ls → Ends ls (t ++ (get_or ls j 0 ∷ [])) (j + 1)
ends_more {ls} {t} {j} e h =
    let m = take_more ls j 0 h in
    let a = append_assoc e.front (take j ls) (get_or ls j 0 ∷ []) in
    let s = e.split in
    record { fits = omega arith; front = e.front; split = cc }

ends_less : {ls t : List ℕ} {x j : ℕ} → Ends ls (t ++ (x ∷ [])) (suc j) → Ends ls t j × (get_or ls j 0 ≡ x)
ends_less {ls} {t} {x} {j} e =
    let h : j < length ls = omega (arith, e.fits) in
    let o : j + 1 ≡ suc j = omega arith in
    let m = take_more ls j 0 h in
    let a = append_assoc e.front (take j ls) (get_or ls j 0 ∷ []) in
    let s = e.split in
    let q : t ++ (x ∷ []) ≡ (e.front ++ take j ls) ++ (get_or ls j 0 ∷ []) = cc in
    let p = same_from_push t (e.front ++ take j ls) x (get_or ls j 0) q in
    (record { fits = omega arith; front = e.front; split = p.0 }, sym p.1)

-- of two ends of one list the longer ends with the shorter
shorter_end : (f u g v : List ℕ) → f ++ u ≡ g ++ v → length v ≤ length u → (h : List ℕ) × (u ≡ h ++ v)
shorter_end [] u g v e l = (g, e)
shorter_end (a ∷ f) u [] v e l = absurd (omega (arith, ap length e, length-append f u))
shorter_end (a ∷ f) u (b ∷ g) v e l = let s : f ++ u ≡ g ++ v = cc in shorter_end f u g v s l

-- what ends the first k letters ends what they end, and the other way round
ends_within : {ls t : List ℕ} {k j : ℕ} → Ends ls t k → Ends ls (take k ls) j → Ends ls t j
ends_within {ls} {t} {k} {j} e b =
    let a = append_assoc e.front b.front (take j ls) in
    let s = e.split in
    let z = b.split in
    record { fits = b.fits; front = e.front ++ b.front; split = cc }

ends_narrow : {ls t : List ℕ} {k j : ℕ} → Ends ls t k → Ends ls t j → j ≤ k → Ends ls (take k ls) j
ends_narrow {ls} {t} {k} {j} e b l =
    let r = shorter_end e.front (take k ls) b.front (take j ls) (sym e.split ∙ b.split)
    (omega (arith, length-take-le k ls e.fits, length-take-le j ls b.fits)) in
    record { fits = b.fits; front = r.0; split = r.1 }

-- On the way down the borders: t ends with k letters, and no longer beginning of the letters goes on with the letter x.
pub record Falling (ls t : List ℕ) (x k : ℕ) : Type 0 where
  pub ends : Ends ls t k
  pub longest : (j : ℕ) → j < length ls → Ends ls t j → get_or ls j 0 ≡ x → j ≤ k

pub falling_first : {ls t : List ℕ} {x k : ℕ} → Matches ls t k → Falling ls t x k
falling_first m = record { ends = m.ends; longest = λ j _ e _. m.longest j e }

pub falling_on : {ls t : List ℕ} {x k b : ℕ} → (get_or ls k 0 ≡ x → ⊥) → Border ls k b → Falling ls t x k → Falling ls t x b
falling_on {ls} {t} {x} {k} {b} ne o f =
    record {
      ends = ends_within f.ends o.ends;
      longest =
          λ j l e g.
          let m = f.longest j l e g in
          let s : j ≢ k = λ q. ne (subst (λ n. get_or ls n 0 ≡ x) q g) in
          let h : j < k = omega arith in
          o.longest j h (ends_narrow f.ends e m);
    }

falling_bounds : {ls t : List ℕ} {x k j : ℕ} → Falling ls t x k → Ends ls (t ++ (x ∷ [])) (suc j) → j ≤ k
falling_bounds {ls} {t} {x} {k} {j} f e = let h : j < length ls = omega (arith, e.fits) in f.longest j h (ends_less e).0 (ends_less e).1

pub falling_full : {ls t : List ℕ} {x k : ℕ} → k < length ls → get_or ls k 0 ≡ x → Falling ls t x k → Matches ls (t ++ (x ∷ [])) (k + 1)
falling_full {ls} {t} {x} {k} h g f =
    record {
      ends = subst (λ y. Ends ls (t ++ (y ∷ [])) (k + 1)) g (ends_more f.ends h);
      longest = elim [ zero ↦ λ _. omega arith | suc j ↦ λ e. omega (arith, falling_bounds f e) ];
    }

pub falling_none : {ls t : List ℕ} {x k : ℕ} → k ≡ 0 → (get_or ls k 0 ≡ x → ⊥) → Falling ls t x k → Matches ls (t ++ (x ∷ [])) 0
falling_none {ls} {t} {x} {k} z ne f =
    record {
      ends = ends_none ls _;
      longest =
          elim [
            | zero ↦ λ _. omega arith
            | suc j ↦ λ e.
                let l : j ≡ k = omega (arith, falling_bounds f e) in
                absurd (ne (subst (λ n. get_or ls n 0 ≡ x) l (ends_less e).1))
          ];
    }

-- the entry that a match of k letters falls back to
pub border_of : (ls table : List ℕ) (n k : ℕ) → Table ls table n → (k ≡ 0 → ⊥) → k ≤ n → Border ls k (get_or table (k - 1) 0)
border_of ls table n k t z l =
    let e : k - 1 + 1 ≡ k = omega arith in
    subst (λ m. Border ls m (get_or table (k - 1) 0)) e (t (k - 1) (omega arith))

-- The proper borders of some letters are the ends of all of them but the first.
ends_cons : (ls u : List ℕ) (j : ℕ) → Ends ls (drop 1 u) j → Ends ls u j
ends_cons ls [] j e = e
ends_cons ls (x ∷ u) j e = record { fits = e.fits; front = x ∷ e.front; split = ap (λ v. x ∷ v) e.split }

shorter_front : (u f v : List ℕ) → u ≡ f ++ v → length v < length u → (g : List ℕ) × (drop 1 u ≡ g ++ v)
shorter_front u [] v e l = absurd (omega (arith, ap length e))
shorter_front u (a ∷ f) v e l = (f, ap (drop 1) e)

ends_tail : (ls u : List ℕ) (j : ℕ) → Ends ls u j → j < length u → Ends ls (drop 1 u) j
ends_tail ls u j e l =
    let r = shorter_front u e.front (take j ls) e.split (omega (arith, length-take-le j ls e.fits)) in
    record { fits = e.fits; front = r.0; split = r.1 }

border : (ls : List ℕ) (n b : ℕ) → 0 < n → n ≤ length ls → Matches ls (drop 1 (take n ls)) b → Border ls n b
border ls n b z l m =
    let s = length-take-le n ls l in
    record {
      proper = omega (arith, ends_length m.ends, length-drop 1 (take n ls));
      ends = ends_cons ls (take n ls) b m.ends;
      longest = λ j h e. m.longest j (ends_tail ls (take n ls) j e (omega arith));
    }

-- The table is right below i, and k is its last entry.
pub record Filling (ls table : List ℕ) (i k : ℕ) : Type 0 where
  pub small : k < i
  pub matches : Matches ls (drop 1 (take i ls)) k
  pub right : Table ls table i

filling :
    (ls table : List ℕ) (i k : ℕ) → i < length ls → i < length table → Table ls table i → Matches ls (drop 1 (take (i + 1) ls)) k →
    Filling ls (set table i k) (i + 1) k
filling ls table i k l h t m =
    let b = border ls (i + 1) k (omega arith) (omega arith) m in
    record {
      small = b.proper;
      matches = m;
      right =
          below_more _ _
          (λ j o. let ne : j ≢ i = omega arith in rw get_or-set_other (t j o))
          (rw get_or-set_same b);
    }

pub filling_first : (ls table : List ℕ) → 0 < length ls → length ls ≤ length table → Filling ls (set table 0 0) 1 0
filling_first ls table z h =
    let n : drop 1 (take 1 ls) ≡ [] = drop_all 1 (take 1 ls) (omega (arith, length-take-le 1 ls z)) in
    filling ls table 0 0 z (omega arith) (λ j o. absurd (omega arith)) (rw n (matches_none ls))

pub filling_more :
    (ls table : List ℕ) (i k r : ℕ) → 0 < i → i < length ls → length ls ≤ length table → Filling ls table i k → Step ls k (get_or ls i 0) r →
    Filling ls (set table i r) (i + 1) r
filling_more ls table i k r z l h f s =
    let m = take_more ls i 0 l in
    let o : 1 ≤ length (take i ls) = omega (arith, length-take-le i ls (omega arith)) in
    let d = drop-append-le 1 (take i ls) (get_or ls i 0 ∷ []) o in
    let e : drop 1 (take i ls) ++ (get_or ls i 0 ∷ []) ≡ drop 1 (take (i + 1) ls) = cc in
    filling ls table i r l (omega arith) f.right (subst (λ t. Matches ls t r) e (s (drop 1 (take i ls)) f.matches))

-- Words written over others: what they leave, and one run of them after another.
use Rattle.std.proofs.Common.{◌≡◌, ℕ, suc, ◌+◌, ◌-◌, ◌<◌, ◌≤◌, List, [], ◌∷◌, ◌++◌, length, get_or, take, drop, set, sym, ap, ◌∙◌, append-nil, zero-add, arith}
use Rattle.std.specs.List.{between}
use Rattle.std.proofs.lemmas.List.{append_assoc, length-append, length-take-le, length-drop, take-append-drop, take_all, take_at, take_more, drop_at, drop-drop, set_split, nil_from_length}
use Rattle.recorder.specs.Records.{written}
use borrow.Rule.Slice.PartMut.{put_mid}

-- the words ws written from place a on
abbrev pub written_at : List ℕ → ℕ → List ℕ → List ℕ
written_at u a ws = take a u ++ (ws ++ drop (a + length ws) u)

module _ (u : List ℕ) (a : ℕ) (ws : List ℕ) (fits : a + length ws ≤ length u) where
  front : length (take a u) ≡ a
  front = length-take-le a u (omega arith)

  pub length_written : length (written_at u a ws) ≡ length u
  length_written =
      let r = drop (a + length ws) u in
      omega (arith, length-append (take a u) (ws ++ r), length-append ws r, length-drop (a + length ws) u, front)

  pub take_written : take a (written_at u a ws) ≡ take a u
  take_written = take_at (take a u) (ws ++ drop (a + length ws) u) a front

  pub between_written : between a (a + length ws) (written_at u a ws) ≡ ws
  between_written =
      let r = drop (a + length ws) u in
      let n : a + length ws - a ≡ length ws = omega arith in
      ap (λ x. take x (drop a (written_at u a ws))) n ∙ ap (take (length ws)) (drop_at (take a u) (ws ++ r) a front) ∙ take_at ws r (length ws) (omega arith)

  end_written : drop (a + length ws) (written_at u a ws) ≡ drop (a + length ws) u
  end_written =
      let r = drop (a + length ws) u in
      let n : length (take a u ++ ws) ≡ a + length ws = omega (arith, length-append (take a u) ws, front) in
      ap (drop (a + length ws)) (sym (append_assoc (take a u) ws r)) ∙ drop_at (take a u ++ ws) r (a + length ws) n

  pub drop_written : (n : ℕ) → a + length ws ≤ n → drop n (written_at u a ws) ≡ drop n u
  drop_written n h =
      let e : a + length ws + (n - (a + length ws)) ≡ n = omega arith in
      let m = n - (a + length ws) in
      ap (λ x. drop x (written_at u a ws)) (sym e) ∙ sym (drop-drop m (a + length ws) (written_at u a ws)) ∙ ap (drop m) end_written
      ∙ drop-drop m (a + length ws) u ∙ ap (λ x. drop x u) e

  -- and more behind them
  pub written_more : (vs : List ℕ) (b : ℕ) → b ≡ a + length ws → written_at (written_at u a ws) b vs ≡ written_at u a (ws ++ vs)
  written_more vs b is =
      let r = drop (a + length ws) u in
      let n : length (take a u ++ ws) ≡ a + length ws = omega (arith, length-append (take a u) ws, front) in
      let t : take (a + length ws) (written_at u a ws) ≡ take a u ++ ws =
      ap (take (a + length ws)) (sym (append_assoc (take a u) ws r)) ∙ take_at (take a u ++ ws) r (a + length ws) n in
      let d : drop (a + length ws + length vs) (written_at u a ws) ≡ drop (a + length ws + length vs) u = drop_written (a + length ws + length vs) (omega arith) in
      let k : a + length ws + length vs ≡ a + length (ws ++ vs) = omega (arith, length-append ws vs) in
      let a0 = append_assoc (take a u) ws (vs ++ drop (a + length (ws ++ vs)) u) in
      let a1 = append_assoc ws vs (drop (a + length (ws ++ vs)) u) in
      cc

-- from the front, and in the words from place a on
pub written_front : (u ws : List ℕ) → written_at u 0 ws ≡ written u ws
written_front u ws = ap (λ n. ws ++ drop n u) (zero-add (length ws))

pub written_from : (u ws new : List ℕ) (a k : ℕ) → k ≡ length u - a → new ≡ written (take k (drop a u)) ws → put_mid a k u new ≡ written_at u a ws
written_from u ws new a k e is =
    let all : take k (drop a u) ≡ drop a u = take_all k (drop a u) (omega (arith, length-drop a u)) in
    let none : drop k (drop a u) ≡ [] = nil_from_length (drop k (drop a u)) (omega (arith, length-drop k (drop a u), length-drop a u)) in
    ap (λ xs. take a u ++ (new ++ xs)) none ∙ ap (λ xs. take a u ++ xs) (append-nil new ∙ is ∙ ap (λ xs. ws ++ drop (length ws) xs) all ∙ ap (λ xs. ws ++ xs) (drop-drop (length ws) a u))

pub written_none : (u : List ℕ) (a : ℕ) → written_at u a [] ≡ u
written_none u a =
    let z : a + 0 ≡ a = omega arith in
    ap (λ n. take a u ++ drop n u) z ∙ take-append-drop a u

pub written_one : (u : List ℕ) (a x : ℕ) → a < length u → set u a x ≡ written_at u a (x ∷ [])
written_one u a x h =
    let e : suc a ≡ a + 1 = omega arith in
    set_split u a x h ∙ ap (λ n. take a u ++ (x ∷ drop n u)) e

-- one more letter
pub letter_more :
    (u v : List ℕ) (i : ℕ) (ls : List ℕ) (l : ℕ) → i < length ls → length ls ≤ length u → l ≡ get_or ls i 0 → v ≡ written_at u 0 (take i ls) →
    set v i l ≡ written_at u 0 (take (i + 1) ls)
letter_more u v i ls l less fits is is-v =
    let n = length-take-le i ls (omega arith) in
    let long : length v ≡ length u = ap length is-v ∙ length_written u 0 (take i ls) (omega arith) in
    written_one v i l (omega arith) ∙ ap (λ x. written_at x i (l ∷ [])) is-v ∙ written_more u 0 (take i ls) (omega arith) (l ∷ []) i (omega arith)
    ∙ ap (λ x. written_at u 0 (take i ls ++ (x ∷ []))) is ∙ ap (written_at u 0) (sym (take_more ls i 0 less))

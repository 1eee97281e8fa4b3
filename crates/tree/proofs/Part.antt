-- What a slice holds after its end from word a on was lent and came back as ys: for a tree that stands at the end of a larger slice.
use Rattle.std.proofs.Common.{◌≡◌, ℕ, ◌+◌, ◌-◌, ◌≤◌, List, [], ◌++◌, length, get_or, take, drop, sym, ap, ◌∙◌, arith}
use borrow.Rule.Slice.PartMut.{put_mid}
use Rattle.std.proofs.lemmas.List.{append-nil, drop_all, drop_at, get_or-drop, length-drop, length-take-le}

module _ (a : ℕ) (xs ys : List ℕ) (start : a ≤ length xs) (long : length ys ≡ length xs - a) where
  pub lent_back : drop a (put_mid a (length xs - a) xs ys) ≡ ys
  lent_back =
      let front : length (take a xs) ≡ a = length-take-le a xs start in
      let none : drop (length xs - a) (drop a xs) ≡ [] = drop_all (length xs - a) (drop a xs) (simp length-drop (omega arith)) in
      drop_at (take a xs) (ys ++ drop (length xs - a) (drop a xs)) a front ∙ ap (λ (zs : List ℕ). ys ++ zs) none ∙ append-nil ys

  pub lent_word : (i : ℕ) → get_or (put_mid a (length xs - a) xs ys) (a + i) 0 ≡ get_or ys i 0
  lent_word i = sym (get_or-drop a (put_mid a (length xs - a) xs ys) i 0) ∙ ap (λ (zs : List ℕ). get_or zs i 0) lent_back

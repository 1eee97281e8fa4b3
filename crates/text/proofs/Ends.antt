-- What is left after a part, or from a byte on that does not fit, is the end of what was there.
use Rattle.std.proofs.Common.{◌≡◌, ℕ, zero, suc, ◌-◌, ◌≤◌, Bool, true, false, eqb, ltb, List, [], ◌∷◌, ◌++◌, length, get_or, take, drop, codes, sym, refl, ap, ◌∙◌, subst, arith}
use Rattle.std.proofs.lemmas.List.{append_assoc, length-append, take-append-drop, drop_at}
use Rattle.model.specs.Paper.{pick}
use Rattle.text.specs.Lines.{Step, got, stop, and_then, ended}
use Rattle.text.specs.Shown.{word_at, number_shown, spaced_shown, cell_shown, repeated, counted, row_shown, refusal_shown, pair_shown, form_shown, answer_shown}

abbrev pub IsEnd : List ℕ → List ℕ → Type 0
IsEnd ys xs = (front : List ℕ) × (xs ≡ front ++ ys)

-- and so its place is known by its length
pub end_place : (xs ys : List ℕ) → IsEnd ys xs → (ys ≡ drop (length xs - length ys) xs) × (length ys ≤ length xs)
end_place xs ys p =
    let whole = ap length p.1 ∙ length-append p.0 ys in
    let at : length xs - length ys ≡ length p.0 = omega arith in
    (sym (ap (λ i. drop i xs) at ∙ (ap (drop (length p.0)) p.1 ∙ drop_at p.0 ys (length p.0) refl)), omega arith)

pub stops_there : {A : Type 0} (s : Step A) (xs ys : List ℕ) → IsEnd ys xs → s ≡ stop ys → (s ≡ stop (drop (length xs - length ys) xs)) × (length xs - length ys ≤ length xs)
stops_there s xs ys p h = (h ∙ ap (λ us. stop us) (end_place xs ys p).0, omega arith)

abbrev left : Step (List ℕ) → List ℕ
left (got l ys) = ys
left (stop ys) = ys

record Ends (s : Step (List ℕ)) (xs : List ℕ) : Type 0 where
  pub is : IsEnd (left s) xs

stops_here : (xs : List ℕ) → Ends (stop xs) xs
stops_here xs = record { is = ([], refl) }

got_after : (l : List ℕ) (n : ℕ) (xs : List ℕ) → Ends (got l (drop n xs)) xs
got_after l n xs = record { is = (take n xs, sym (take-append-drop n xs)) }

got_here : (l xs : List ℕ) → Ends (got l xs) xs
got_here l xs = record { is = ([], refl) }

ends_later : {s : Step (List ℕ)} {xs ys : List ℕ} → IsEnd ys xs → Ends s ys → Ends s xs
ends_later {s = s} p q = record { is = (p.0 ++ q.is.0, p.1 ∙ (ap (λ us. p.0 ++ us) q.is.1 ∙ sym (append_assoc p.0 q.is.0 (left s)))) }

ends_dropped : {s : Step (List ℕ)} (n : ℕ) (xs : List ℕ) → Ends s (drop n xs) → Ends s xs
ends_dropped n xs q = ends_later (take n xs, sym (take-append-drop n xs)) q

ends_then : {s : Step (List ℕ)} {xs : List ℕ} (f : List ℕ → List ℕ → Step (List ℕ)) → Ends s xs → ((l ys : List ℕ) → Ends (f l ys) ys) → Ends (and_then s f) xs
ends_then {s = got l ys} f p q = ends_later p.is (q l ys)
ends_then {s = stop ys} f p q = record { is = p.is }

ends_either : {s t : Step (List ℕ)} {xs : List ℕ} (b : Bool) → Ends s xs → Ends t xs → Ends (pick b s t) xs
ends_either true p q = p
ends_either false p q = q

ended_ends : (l xs : List ℕ) → Ends (ended l xs) xs
ended_ends l [] = got_here l []
ended_ends l (x ∷ xs) = stops_here (x ∷ xs)

number_ends : (line xs : List ℕ) → Ends (number_shown line xs) xs
unfolding number_shown
number_ends line xs = ends_either (ltb (length xs) 4) (stops_here xs) (got_after _ 4 xs)

spaced_ends : (line xs : List ℕ) → Ends (spaced_shown line xs) xs
spaced_ends line xs = number_ends (line ++ codes " ") xs

cell_ends : (line xs : List ℕ) → Ends (cell_shown line xs) xs
unfolding cell_shown
cell_ends line xs = ends_either (ltb (length xs) 16) (stops_here xs) (ends_either (ltb (word_at xs 0) 256) (got_after _ 16 xs) (stops_here xs))

module _ (f : List ℕ → List ℕ → Step (List ℕ)) (each : (line xs : List ℕ) → Ends (f line xs) xs) where
  repeated_ends : (n : ℕ) (line xs : List ℕ) → Ends (repeated f n line xs) xs
  unfolding repeated
  repeated_ends zero line xs = got_here line xs
  repeated_ends (suc n) line xs = ends_then (repeated f n) (each line xs) (repeated_ends n)

  counted_ends : (line xs : List ℕ) → Ends (counted f line xs) xs
  unfolding counted
  counted_ends line xs = ends_either (ltb (length xs) 4) (stops_here xs) (ends_dropped 4 xs (repeated_ends (word_at xs 0) line (drop 4 xs)))

row_ends : (line xs : List ℕ) → Ends (row_shown line xs) xs
row_ends line xs = ends_then (λ l ys. got (l ++ codes "|") ys) (counted_ends cell_shown cell_ends line xs) (λ l ys. got_here (l ++ codes "|") ys)

refusal_ends : (line xs : List ℕ) → Ends (refusal_shown line xs) xs
refusal_ends line xs = ends_then (λ l ys. spaced_shown (l ++ codes " at") ys) (spaced_ends (line ++ codes "refused") xs) (λ l ys. spaced_ends (l ++ codes " at") ys)

pair_ends : (line xs : List ℕ) → Ends (pair_shown line xs) xs
pair_ends line xs = ends_then spaced_shown (number_ends line xs) spaced_ends

form_ends : (line xs : List ℕ) → Ends (form_shown line xs) xs
form_ends line xs =
    let t = get_or xs 0 0 in
    let after = drop 1 xs in
    ends_either (eqb (length xs) 0) (stops_here xs)
    (ends_either (eqb t 0) (ends_dropped 1 xs (refusal_ends line after))
    (ends_either (eqb t 1) (ends_dropped 1 xs (number_ends line after))
    (ends_either (eqb t 2) (ends_dropped 1 xs (pair_ends line after))
    (ends_either (eqb t 3) (ends_dropped 1 xs (counted_ends row_shown row_ends (line ++ codes "rows |") after))
    (ends_either (eqb t 4) (ends_dropped 1 xs (counted_ends spaced_shown spaced_ends (line ++ codes "numbers") after)) (stops_here xs))))))

pub answer_stop : (bs rest : List ℕ) → answer_shown bs ≡ stop rest → IsEnd rest bs
answer_stop bs rest h = (subst (λ s. Ends s bs) h (ends_then ended (form_ends [] bs) ended_ends)).is

-- Only the bytes of a call are read as that call.
use Rattle.std.proofs.Common.{◌≡◌, ℕ, zero, suc, ◌+◌, ◌*◌, ◌<◌, ◌≤◌, true, List, [], ◌∷◌, length, get_or, drop, sym, ap, ◌∙◌, inl, inr, append-nil, arith}
use Rattle.std.proofs.lemmas.List.{length-drop, drop_all}
use Rattle.std.proofs.lemmas.Bool.{cases_eq, cases_lt}
use Rattle.model.specs.Calls.{Call}
use Rattle.model.specs.Promise.{all_below}
use Rattle.codec.specs.Bytes.{words_bytes, call_bytes}
use Rattle.codec.specs.Reading.{Reading, reading, call_is, ceases, head_length, whole_length, call_of, field}
use Rattle.codec.specs.Laws.{ReadsOnly}
use Rattle.codec.proofs.ReadableIs.{readable_is}
use Rattle.codec.proofs.Words.{words_at, words_split}
use Rattle.codec.proofs.Readings.{no_byte, no_call, few_fields, few_letters, too_many, whole}

-- bytes that are read as a call passed every test
record Passed (bs : List ℕ) (c : Call) : Type 0 where
  known : get_or bs 0 0 < 12
  enough : head_length (get_or bs 0 0) ≤ length bs
  long : length bs ≡ whole_length bs
  is : c ≡ call_of bs (drop (head_length (get_or bs 0 0)) bs)

clash : {P : Type 0} (r : Reading) (c : Call) (i : ℕ) → r ≡ call_is c → r ≡ ceases i → P
clash r c i e f = let z : ◌≡◌ {A = ℕ} 0 1 = cc in absurd (omega arith)

passed : (bs : List ℕ) (c : Call) → reading bs ≡ call_is c → Passed bs c
passed bs c e =
    elim (cases_eq (length bs) 0) [
      | inl none ↦ clash (reading bs) c 0 e (no_byte bs none)
      | inr some ↦
          elim (cases_lt (get_or bs 0 0) 12) [
            | inr high ↦ clash (reading bs) c 0 e (no_call bs high)
            | inl known ↦
                elim (cases_lt (length bs) (head_length (get_or bs 0 0))) [
                  | inl few ↦ clash (reading bs) c (length bs) e (few_fields bs some known few)
                  | inr enough ↦
                      elim (cases_lt (length bs) (whole_length bs)) [
                        | inl few ↦ clash (reading bs) c (length bs) e (few_letters bs some known enough few)
                        | inr all ↦
                            elim (cases_lt (whole_length bs) (length bs)) [
                              | inl many ↦ clash (reading bs) c (whole_length bs) e (too_many bs some known enough many)
                              | inr right ↦
                                  let long : length bs ≡ whole_length bs = omega arith in
                                  let w = whole bs some known enough long in
                                  record { known = known; enough = enough; long = long; is = cc }
                            ]
                      ]
                ]
          ]
    ]

-- a call without letters is its fields
no_letters : (bs : List ℕ) → all_below 256 bs ≡ true → (k : ℕ) → length bs ≡ 1 + 4 * k → drop 1 bs ≡ words_bytes (words_at bs 1 k)
no_letters bs b k long =
    let s = words_split bs b 1 k (omega arith) in
    let d = drop_all (1 + 4 * k) bs (omega arith) in
    let a = append-nil (words_bytes (words_at bs 1 k)) in
    cc

-- by the first byte
only : (t : ℕ) (rest : List ℕ) → t < 12 → all_below 256 (t ∷ rest) ≡ true → head_length t ≤ length (t ∷ rest) → length (t ∷ rest) ≡ whole_length (t ∷ rest)
    → t ∷ rest ≡ call_bytes (call_of (t ∷ rest) (drop (head_length t) (t ∷ rest)))
unfolding call_bytes words_bytes
only zero rest h b enough long =
    let bs : List ℕ = 0 ∷ rest in
    let l : length (drop 17 bs) ≡ field bs 3 = simp length-drop (omega arith) in
    rw l (ap (λ r. 0 ∷ r) (words_split bs b 1 4 enough))
only (suc zero) rest h b enough long = ap (λ r. 1 ∷ r) (no_letters (1 ∷ rest) b 3 long)
only (suc (suc zero)) rest h b enough long = ap (λ r. 2 ∷ r) (no_letters (2 ∷ rest) b 1 long)
only (suc (suc (suc zero))) rest h b enough long = ap (λ r. 3 ∷ r) (no_letters (3 ∷ rest) b 1 long)
only (suc (suc (suc (suc zero)))) rest h b enough long = ap (λ r. 4 ∷ r) (no_letters (4 ∷ rest) b 3 long)
only (suc (suc (suc (suc (suc zero))))) rest h b enough long = ap (λ r. 5 ∷ r) (no_letters (5 ∷ rest) b 0 long)
only (suc (suc (suc (suc (suc (suc zero)))))) rest h b enough long = ap (λ r. 6 ∷ r) (no_letters (6 ∷ rest) b 0 long)
only (suc (suc (suc (suc (suc (suc (suc zero))))))) rest h b enough long = ap (λ r. 7 ∷ r) (no_letters (7 ∷ rest) b 4 long)
only (suc (suc (suc (suc (suc (suc (suc (suc zero)))))))) rest h b enough long =
    let bs : List ℕ = 8 ∷ rest in
    let l : length (drop 13 bs) ≡ field bs 2 = simp length-drop (omega arith) in
    rw l (ap (λ r. 8 ∷ r) (words_split bs b 1 3 enough))
only (suc (suc (suc (suc (suc (suc (suc (suc (suc zero))))))))) rest h b enough long = ap (λ r. 9 ∷ r) (no_letters (9 ∷ rest) b 1 long)
only (suc (suc (suc (suc (suc (suc (suc (suc (suc (suc zero)))))))))) rest h b enough long = ap (λ r. 10 ∷ r) (no_letters (10 ∷ rest) b 1 long)
only (suc (suc (suc (suc (suc (suc (suc (suc (suc (suc (suc zero))))))))))) rest h b enough long = ap (λ r. 11 ∷ r) (no_letters (11 ∷ rest) b 2 long)
only (suc (suc (suc (suc (suc (suc (suc (suc (suc (suc (suc (suc t)))))))))))) rest h b enough long = absurd (omega arith)

only_passed : (bs : List ℕ) (c : Call) → all_below 256 bs ≡ true → Passed bs c → bs ≡ call_bytes c
only_passed [] c b p = absurd (omega (arith, p.enough))
only_passed (t ∷ rest) c b p = rw p.is (only t rest p.known b p.enough p.long)

pub reads_only : ReadsOnly
reads_only bs c b e = let o = only_passed bs c b (passed bs c e) in (o, readable_is c ∙ (ap (all_below 256) (sym o) ∙ b))

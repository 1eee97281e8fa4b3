-- What bytes read as, by the tests that they pass.
use Rattle.std.proofs.Common.{◌≡◌, ℕ, ◌<◌, ◌≤◌, false, ◌||◌, eqb, ltb, leb, List, length, get_or, drop, arith}
use Rattle.std.proofs.lemmas.Bool.{lt-ltb, le-ltb}
use Rattle.codec.specs.declared.kind.Kind.{Kind}
use Rattle.codec.specs.declared.kind.Kind.TheVariants as kind
use Rattle.codec.specs.Kinds.{kind_number}
use Rattle.codec.specs.Reading.{reading, call_is, ceases, head_length, whole_length, call_of}

pub no_byte : (bs : List ℕ) → length bs ≡ 0 → reading bs ≡ ceases 0
unfolding reading
no_byte bs h = grind arith

pub no_call : (bs : List ℕ) → 12 ≤ get_or bs 0 0 → reading bs ≡ ceases 0
unfolding reading
no_call bs h = grind arith

module _ (bs : List ℕ) (some : length bs ≡ 0 → ⊥) (known : get_or bs 0 0 < 12) where
  begins : (eqb (length bs) 0 || leb 12 (get_or bs 0 0)) ≡ false
  begins = grind arith

  pub few_fields : length bs < head_length (get_or bs 0 0) → reading bs ≡ ceases (length bs)
  unfolding reading
  few_fields h = rw (begins, lt-ltb (length bs) (head_length (get_or bs 0 0)) h)

  module _ (enough : head_length (get_or bs 0 0) ≤ length bs) where
    fields : ltb (length bs) (head_length (get_or bs 0 0)) ≡ false
    fields = le-ltb (length bs) (head_length (get_or bs 0 0)) enough

    pub few_letters : length bs < whole_length bs → reading bs ≡ ceases (length bs)
    unfolding reading
    few_letters h = rw (begins, fields, lt-ltb (length bs) (whole_length bs) h)

    pub too_many : whole_length bs < length bs → reading bs ≡ ceases (whole_length bs)
    unfolding reading
    too_many h =
        let le : whole_length bs ≤ length bs = omega arith in
        rw (begins, fields, le-ltb (length bs) (whole_length bs) le, lt-ltb (whole_length bs) (length bs) h)

    pub whole : length bs ≡ whole_length bs → reading bs ≡ call_is (call_of bs (drop (head_length (get_or bs 0 0)) bs))
    unfolding reading
    whole h =
        let le : whole_length bs ≤ length bs = omega arith in
        let ge : length bs ≤ whole_length bs = omega arith in
        rw (begins, fields, le-ltb (length bs) (whole_length bs) le, le-ltb (whole_length bs) (length bs) ge)

-- a byte that is the number of a kind is the first byte of a call
pub known : (bs : List ℕ) (k : Kind) → get_or bs 0 0 ≡ kind_number k → get_or bs 0 0 < 12
known bs kind.Put e = omega arith
known bs kind.Strike e = omega arith
known bs kind.Accept e = omega arith
known bs kind.Reject e = omega arith
known bs kind.Style e = omega arith
known bs kind.Undo e = omega arith
known bs kind.Redo e = omega arith
known bs kind.Show e = omega arith
known bs kind.Find e = omega arith
known bs kind.Count e = omega arith
known bs kind.Change e = omega arith
known bs kind.Save e = omega arith

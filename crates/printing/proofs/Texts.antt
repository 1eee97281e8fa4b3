-- From the numbers that were read of a text to what the text is.
use Rattle.std.proofs.Common.{◌≡◌, ℕ, ◌+◌, ◌<◌, ◌≤◌, List, [], map, length, take, drop, Result, Ok, Err, sym, ap, ◌∙◌, subst, inl, inr, arith}
use Rattle.std.specs.List.{AllByRecursion}
use Rattle.std.specs.Prelude.{MatchResult}
use Rattle.std.specs.Result.{result_and}
use Rattle.std.proofs.lemmas.List.{take_at, take-take, take-map, get_or-take, length-map, length-take, length-take-le}
use Rattle.std.proofs.ByRecursion.{All-take, All-get_or}
use Rattle.std.proofs.lemmas.Bool.{cases_lt}
use Rattle.model.specs.Paper.{Paper, written}
use Rattle.file.specs.File.{paper_in}
use Rattle.file.specs.Paper.{Fits, Ceases}
use Rattle.file.specs.declared.File.{File}
use Rattle.file.specs.Words.{words, value, WordFits, Stops}
use Rattle.file.proofs.Rows.{length_written}
use Rattle.printing.specs.Reading.{Says, CeasesAt}

-- word n is no number, or there is no room for it
module _ (text old ns : List ℕ) (n : ℕ) (most : length old ≡ 8449) (s : Stops text old ns n) where
  front_of : take n ns ≡ take n (map value (words text))
  front_of =
      let h : n ≤ length (words text) = omega (arith, s.within) in
      ap (take n) s.wrote ∙ (take_at (map value (take n (words text))) (drop n old) n (length-map (take n (words text)) value ∙ length-take-le n (words text) h) ∙ sym (take-map value n (words text)))

  no_more : (p : Paper) → Fits p → AllByRecursion WordFits (take (n + 1) (words text)) → take (n + 1) (written p) ≡ take (n + 1) (map value (words text)) → ⊥
  no_more p fit fits e =
      elim s.why [
        | inl w ↦
            omega (arith, ap length e, length-take (n + 1) (written p), length-take (n + 1) (map value (words text)), length-map (words text) value, length_written p, fit.few_changes, fit.few_cells, s.within)
        | inr w ↦
            let l : n < length (take (n + 1) (words text)) = omega (arith, length-take (n + 1) (words text), s.within) in
            let h : n < n + 1 = omega arith in
            w (subst WordFits (get_or-take (n + 1) (words text) n [] h) (All-get_or WordFits (take (n + 1) (words text)) n [] l fits))
      ]

  stops_whole : (f : File) → f.numbers.now ≡ take n ns → CeasesAt text n
  stops_whole f e =
      let h : n ≤ n = omega arith in (
        record {
          within = omega (arith, s.within);
          numbers = s.fit;
          begins = (paper_in f, f.fits.fits, ap (take n) (sym f.fits.is ∙ e) ∙ (take-take n n ns h ∙ front_of));
          ends = no_more;
        },
        omega (arith, s.room),
      )

  stops_early : (i : ℕ) → Ceases (take n ns) i → CeasesAt text i
  stops_early i f =
      let g : Ceases (take n (map value (words text))) i = subst (λ (us : List ℕ). Ceases us i) front_of f in
      let h : i ≤ n = omega (arith, g.within, length-take n (map value (words text))) in (
        record {
          within = omega (arith, s.within);
          numbers = subst (AllByRecursion WordFits) (take-take i n (words text) h) (All-take WordFits i (take n (words text)) s.fit);
          begins = (g.begins.0, g.begins.1, g.begins.2 ∙ take-take i n (map value (words text)) h);
          ends =
              elim (cases_lt i n) [
                | inl l ↦ λ p fit _ e. let k : i + 1 ≤ n = omega arith in g.ends p fit (e ∙ sym (take-take (i + 1) n (map value (words text)) k))
                | inr l ↦
                    let here : n ≡ i = omega arith in
                    subst (λ (k : ℕ). (p : Paper) → Fits p → AllByRecursion WordFits (take (k + 1) (words text)) → take (k + 1) (written p) ≡ take (k + 1) (map value (words text)) → ⊥) here no_more
              ];
        },
        omega (arith, s.room),
      )

  -- the numbers before it may cease to be a file earlier
  pub stops : (r : Result File ℕ) → MatchResult r (λ f. f.numbers.now ≡ take n ns) (Ceases (take n ns)) → MatchResult (result_and r (Err n)) (λ f. Says text (paper_in f)) (CeasesAt text)
  stops (Ok f) e = stops_whole f e
  stops (Err i) g = stops_early i g

use Rattle.std.proofs.Common.{◌≡◌, [], ◌∷◌, ◌++◌, length, is_some, get_or, vec_items, refl, sym, ap, ◌∙◌}
use Rattle.codec.specs.Bytes.{word_bytes, words_bytes}
use Rattle.text.specs.Lines.{letters_of}
use Rattle.text.proofs.Whole.{words_none, words_more, words_all, joined_letters, joined_plain}
use Rattle.text.proofs.reader.write_call.Goals as goal
use Rattle.text.proofs.reader.write_call.Goals.{in-Some+in-Ok+in_ok-push_word-2+in_ok-extend_from_slice, in_default}

pub loop-n-init : goal.loop-n-init
loop-n-init c = (
  c.in_ok-push.ensures.items
      ∙ (ap (λ xs. xs ++ (c.args.k ∷ [])) c.new-out.ensures.items ∙ ap (λ xs. c.args.k ∷ xs) (sym words_none)),
  refl,
)

pub loop-n-preserved : goal.loop-n-preserved
loop-n-preserved c = (
  c.in_ok-push_word.ensures
      ∙ (ap (λ xs. xs ++ word_bytes (get_or c.args.numbers.now c.loop-n.n-index 0)) c.loop-n.invariant.0
      ∙ ap (λ xs. c.args.k ∷ xs) (sym (words_more c.args.numbers.now c.loop-n.n-index c.loop-n-test.true))),
  c.loop-n.invariant.1,
)

pub returns : goal.returns
returns c =
    let ws = words_bytes c.args.numbers.now in
    let all = c.loop-n.invariant.0 ∙ words_all c.args.numbers.now c.loop-n.n-index c.args.k c.loop-n-test.false in
    elim c.match-text-3.branch [
      | in-Some+in-Ok+in_ok-push_word-2+in_ok-extend_from_slice w ↦
          let ls = letters_of c.args.text in
          let text = sym c.loop-n.invariant.1 ∙ w.in-Some.is in
          let bytes : w.as_slice.result.now ≡ ls = w.as_slice.ensures.value ∙ sym (ap letters_of text) in
          let count : w.in-Ok.count ≡ length ls = w.in-Ok.ensures.1 ∙ (w.len.ensures ∙ (sym w.as_slice.ensures.len ∙ ap length bytes)) in
          ap vec_items w.out-is
          ∙ (w.in_ok-extend_from_slice.ensures.items
          ∙ (ap (λ xs. xs ++ w.as_slice.result.now) w.in_ok-push_word-2.ensures
          ∙ (ap (λ xs. (xs ++ word_bytes w.in-Ok.count) ++ w.as_slice.result.now) all
          ∙ (ap (λ n. ((c.args.k ∷ ws) ++ word_bytes n) ++ w.as_slice.result.now) count
          ∙ (ap (λ xs. ((c.args.k ∷ ws) ++ word_bytes (length ls)) ++ xs) bytes
          ∙ joined_letters c.args.k ws (word_bytes (length ls)) ls (is_some c.args.text) (ap is_some text))))))
      | in_default w ↦
          let text = sym c.loop-n.invariant.1 ∙ w.in_default.is in
          ap vec_items w.out-is ∙ (all ∙ joined_plain c.args.k ws (word_bytes (length (letters_of c.args.text)) ++ letters_of c.args.text) (is_some c.args.text) (ap is_some text))
    ]

-- A worked paper: what is seen of it, in each of the three ways to look, as its calls are done. A statement; nothing is assumed.
use Rattle.std.specs.Prelude.{◌≡◌, true, List, [], ◌∷◌, codes}
use Prim.Native.String.{String}
use Rattle.model.specs.Paper.{view, letters}
use Rattle.model.specs.Calls.{Call, put, strikes, accepts, Limits, ran, new_desk}

abbrev pub limits : Limits
limits = record { calls_can = λ _. true; cells = 2048; changes = 128; undos = 2048 }

-- after these calls the paper is seen so: everything; as if all were accepted; as if all were rejected
pub record Seen (cs : List Call) (all accepted rejected : String) : Type 0 where
  pub everything : letters (view 0 (ran limits new_desk cs).now.cells) ≡ codes all
  pub as_accepted : letters (view 1 (ran limits new_desk cs).now.cells) ≡ codes accepted
  pub as_rejected : letters (view 2 (ran limits new_desk cs).now.cells) ≡ codes rejected

-- Author 1 puts letters in, and they are accepted; then author 2 puts a word in; then author 3 strikes out that word and the next.
unfoldable pub WorkedPapers : Type 0
WorkedPapers =
    Seen (put 1 0 0 (codes "the cat sat") ∷ (accepts 0 ∷ [])) "the cat sat" "the cat sat" "the cat sat" ×
    Seen (put 1 0 0 (codes "the cat sat") ∷ (accepts 0 ∷ (put 2 4 0 (codes "old ") ∷ []))) "the old cat sat" "the old cat sat" "the cat sat" ×
    Seen (put 1 0 0 (codes "the cat sat") ∷ (accepts 0 ∷ (put 2 4 0 (codes "old ") ∷ (strikes 3 4 7 ∷ [])))) "the old cat sat" "the  sat" "the cat sat"

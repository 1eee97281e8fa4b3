-- Where the letters of a paper come from. A statement: its proof stands on a function's contract. Nothing is assumed.
use Rattle.std.specs.Prelude.{◌≡◌, ℕ, List, ◌∷◌, ◌++◌}
use Rattle.std.specs.List.{ContainsAt, AllByRecursion}
use Rattle.model.specs.Paper.{Cell}
use Rattle.model.specs.Calls.{Call, put, Limits, turned, ran, new_desk}

-- One of the calls put this letter in: a put that has the letter among its own, and was not turned away after the calls before it.
pub record PutBy (l : Limits) (cs : List Call) (letter : ℕ) : Type 0 where
  pub before : List Call
  pub author : ℕ
  pub place : ℕ
  pub style : ℕ
  pub typed : List ℕ
  pub later : List Call
  pub calls : cs ≡ before ++ (put author place style typed ∷ later)
  pub done : turned l (ran l new_desk before) (put author place style typed) ≡ 0
  pub has : ContainsAt typed letter

-- Nothing comes from nowhere: after any calls on a new desk, each letter of the paper was put in by one of them.
unfoldable pub NothingFromNowhere : Type 0
NothingFromNowhere = (l : Limits) (cs : List Call) → AllByRecursion (λ (x : Cell). PutBy l cs x.letter) (ran l new_desk cs).now.cells

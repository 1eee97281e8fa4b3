-- The worked paper, computed. Assumes nothing.
use Rattle.std.proofs.Common.{refl}
use Rattle.model.specs.Paper.{new_cells, author_of, strike, accept, seen, view, letters, touched}
use Rattle.model.specs.Calls.{call_number, good_letters, good_fields, turned_by, rewritten, how_much, writes, remembered, moved, ran}
use Rattle.model.specs.Worked.{WorkedPapers}

pub worked_papers : WorkedPapers
unfolding WorkedPapers new_cells author_of strike accept seen view letters touched call_number good_letters good_fields turned_by rewritten how_much writes remembered moved ran
worked_papers = (
  record { everything = refl; as_accepted = refl; as_rejected = refl },
  record { everything = refl; as_accepted = refl; as_rejected = refl },
  record { everything = refl; as_accepted = refl; as_rejected = refl },
)

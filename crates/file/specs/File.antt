-- A paper's file that is lent, as one value.
use Rattle.file.specs.Paper.{paper_of}
use Rattle.file.specs.declared.File.{File}
use Rattle.model.specs.Paper.{Paper}

-- its paper
abbrev pub paper_in : File → Paper
paper_in f = paper_of f.numbers.now f.changes f.cells

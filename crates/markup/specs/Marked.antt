-- Cells as marked letters of a page, byte by byte. Definitions only: nothing is assumed.
use Rattle.std.specs.Prelude.{ℕ, ◌-◌, ◌*◌, ◌%◌, Bool, ◌&&◌, List, [], ◌∷◌, ◌++◌, codes, decimal, ◌==◌, slice_index_or}
use Rattle.model.specs.Paper.{pick, Cell, Change}
use Rattle.markup.specs.Plain.{escaped}

-- an author's colour: authors that follow one another are far apart
abbrev pub hue : ℕ → ℕ
hue a = a % 360 * 137 % 360

abbrev pub colour : ℕ → List ℕ
colour a = codes " style='color:hsl(" ++ (decimal (hue a) ++ codes ",70%,30%)'")

-- the author of the change whose mark a cell has
abbrev pub author_by : List Change → ℕ → ℕ
author_by cs m = (slice_index_or cs (m - 1) (record { author = 0; became = 0 })).author

-- a sentence for a mark, and nothing where there is none
abbrev pub said : List ℕ → ℕ → List ℕ
said words m = pick (m == 0) [] (words ++ (decimal (m - 1) ++ codes ". "))

-- no marks
abbrev pub bare : ℕ → ℕ → Bool
bare p k = p == 0 && k == 0

abbrev pub title : ℕ → ℕ → List ℕ
title p k = pick (bare p k) [] (codes " title='" ++ (said (codes "Put in by change ") p ++ (said (codes "Struck out by change ") k ++ codes "'")))

abbrev pub span : Cell → List ℕ
span x = codes "<span class='s" ++ (decimal x.style ++ (codes "'" ++ (title x.put_in x.struck ++ codes ">")))

-- the tag for a mark, in the colour of its author, and nothing where there is none
abbrev pub mark_tag : List ℕ → List Change → ℕ → List ℕ
mark_tag start cs m = pick (m == 0) [] (start ++ (decimal (m - 1) ++ (codes "'" ++ (colour (author_by cs m) ++ codes ">"))))

abbrev pub opened : List Change → Cell → List ℕ
opened cs x = span x ++ (mark_tag (codes "<ins data-change='") cs x.put_in ++ mark_tag (codes "<del data-change='") cs x.struck)

abbrev pub closed : ℕ → ℕ → List ℕ
closed p k = pick (p == 0) (pick (k == 0) (codes "</span>") (codes "</del></span>")) (pick (k == 0) (codes "</ins></span>") (codes "</del></ins></span>"))

-- the same style and the same marks
abbrev pub alike : Cell → Cell → Bool
alike x y = x.style == y.style && (x.put_in == y.put_in && x.struck == y.struck)

-- What stands between two letters: a new paragraph after letter 10, new tags where they are not alike, else nothing.
abbrev pub between : List Change → Cell → Cell → List ℕ
between cs x y =
    pick (x.letter == 10) (closed x.put_in x.struck ++ (codes "</p><p>" ++ opened cs y))
    (pick (alike x y) [] (closed x.put_in x.struck ++ opened cs y))

-- what follows on a cell
unfoldable pub following : List Change → Cell → List Cell → List ℕ
following cs x [] = closed x.put_in x.struck ++ codes "</p>"
following cs x (y ∷ ys) = between cs x y ++ (escaped y.letter ++ following cs y ys)

-- what follows on the first of some cells
abbrev pub followed : List Change → List Cell → List ℕ
followed cs [] = []
followed cs (x ∷ xs) = following cs x xs

-- cells as paragraphs: letter 10 ends one, and is its last letter
unfoldable pub marked : List Change → List Cell → List ℕ
marked cs [] = []
marked cs (x ∷ xs) = codes "<p>" ++ (opened cs x ++ (escaped x.letter ++ following cs x xs))

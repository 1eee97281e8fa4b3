-- The page of a paper, byte by byte. Definitions only: nothing is assumed.
use Rattle.std.specs.Prelude.{ℕ, zero, suc, Bool, false, ◌||◌, List, [], ◌∷◌, ◌++◌, map, codes, decimal, ◌==◌}
use Rattle.model.specs.Paper.{pick, Cell, Change, Paper, view}
use Rattle.printing.specs.Printed.{Written}
use Rattle.markup.specs.Marked.{colour, marked}

-- lines, each of which ends with byte 10
abbrev pub lined : List (List ℕ) → List ℕ
lined [] = []
lined (l ∷ ls) = l ++ (10 ∷ lined ls)

-- what every page begins with: nothing that moves, and nothing from elsewhere
unfoldable pub head : List ℕ
head =
    lined (
    codes "<!DOCTYPE html>" ∷ (
    codes "<html lang='en'>" ∷ (
    codes "<head>" ∷ (
    codes "<meta charset='utf-8'>" ∷ (
    codes "<title>Paper</title>" ∷ (
    codes "<style>" ∷ (
    codes "body{max-width:44em;margin:2em auto;padding:0 1em;font:16px/1.6 Georgia,DejaVu Serif,serif;color:#111;background:#fff}" ∷ (
    codes "h2,ul,th{font:bold 13px/1.6 Arial,DejaVu Sans,sans-serif;color:#555}" ∷ (
    codes "h2{border-bottom:1px solid #bbb;margin:2em 0 .8em;break-after:avoid}" ∷ (
    codes "p{margin:0;white-space:pre-wrap;overflow-wrap:anywhere}" ∷ (
    codes "ins,u{text-decoration:underline;text-decoration-thickness:2px}" ∷ (
    codes "del,s{text-decoration:line-through;text-decoration-thickness:2px}" ∷ (
    codes "ins::before,del::before{content:attr(data-change);display:inline-block;font:bold 9px/1 Arial,DejaVu Sans,sans-serif;vertical-align:super}" ∷ (
    codes ".s1,.s3{font-weight:bold}" ∷ (
    codes ".s2,.s3{font-style:italic}" ∷ (
    codes "ul{list-style:none;margin:0;padding:0}" ∷ (
    codes "li{display:inline-block;margin-right:1.5em}" ∷ (
    codes "table{border-collapse:collapse;font-size:14px}" ∷ (
    codes "td,th{border:1px solid #bbb;padding:.1em .8em;text-align:left}" ∷ (
    codes "tr{break-inside:avoid}" ∷ (
    codes "@media print{body{margin:0;max-width:none;font-size:11pt}*{print-color-adjust:exact}}" ∷ (
    codes "</style>" ∷ (
    codes "</head>" ∷ (
    codes "<body>" ∷ (
    [])))))))))))))))))))))))))

unfoldable pub key : List ℕ
key =
    lined (
    codes "<ul><li><u>underlined</u>: put in</li><li><s>struck through</s>: struck out</li><li>small number: which change</li></ul>" ∷ (
    [])) ++ codes "<ul>"

-- the authors who made changes, each in the author's colour
unfoldable pub has_author : List Change → ℕ → Bool
has_author [] a = false
has_author (c ∷ cs) a = c.author == a || has_author cs a

abbrev pub author_item : ℕ → List ℕ
author_item a = codes "<li" ++ (colour a ++ (codes ">Author " ++ (decimal a ++ codes "</li>")))

-- n authors from number a on
unfoldable pub authors_from : ℕ → ℕ → List Change → List ℕ
authors_from zero a cs = []
authors_from (suc n) a cs = pick (has_author cs a) (author_item a) [] ++ authors_from n (suc a) cs

abbrev pub legend : List Change → List ℕ
legend cs = key ++ (authors_from 256 0 cs ++ lined (codes "</ul>" ∷ []))

-- a part of the page: some cells under a title
abbrev pub part : List ℕ → List Change → List Cell → List ℕ
part name cs xs = codes "<h2>" ++ (name ++ (lined (codes "</h2>" ∷ []) ++ (codes "<div class='text'>" ++ (marked cs xs ++ lined (codes "</div>" ∷ [])))))

-- a cell without its marks
abbrev pub bare : Cell → Cell
bare x = record { letter = x.letter; style = x.style; put_in = 0; struck = 0 }

abbrev pub as_if : ℕ → List Cell → List Cell
as_if k xs = map bare (view k xs)

-- the changes: number, author, and open, accepted or rejected
abbrev pub became : ℕ → List ℕ
became n = pick (n == 0) (codes "open") (pick (n == 1) (codes "accepted") (codes "rejected"))

abbrev pub change_row : ℕ → Change → List ℕ
change_row k c =
    codes "<tr><td>" ++ (decimal k ++ (codes "</td><td" ++ (colour c.author ++ (codes ">" ++ (decimal c.author ++ (codes "</td><td>" ++ (became c.became ++ lined (codes "</td></tr>" ∷ []))))))))

unfoldable pub change_rows : ℕ → List Change → List ℕ
change_rows k [] = []
change_rows k (c ∷ cs) = change_row k c ++ change_rows (suc k) cs

unfoldable pub table_head : List ℕ
table_head = lined (codes "<h2>Changes</h2>" ∷ (codes "<table>" ∷ (codes "<tr><th>Change</th><th>Author</th><th>Became</th></tr>" ∷ [])))

unfoldable pub foot : List ℕ
foot = lined (codes "</table>" ∷ (codes "</body>" ∷ (codes "</html>" ∷ [])))

abbrev pub parts : Paper → List ℕ
parts p =
    part (codes "Everything") p.changes p.cells
    ++ (part (codes "As if all open changes were accepted") p.changes (as_if 1 p.cells)
    ++ part (codes "As if all open changes were rejected") p.changes (as_if 2 p.cells))

abbrev pub table : List Change → List ℕ
table cs = table_head ++ (change_rows 0 cs ++ foot)

abbrev pub page_of : Paper → List ℕ
page_of p = head ++ (legend p.changes ++ (parts p ++ table p.changes))

-- what the program writes of a text when it is asked for a page
abbrev pub Paged : List ℕ → List ℕ → Type 0
Paged text out = Written page_of text out

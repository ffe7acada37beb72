-- Some of this belongs to what the program promises (docs/promise.txt).
-- The text of the generated program, line by line. The contract of `generated` cites it, and so do the top call's
-- causes for `gen`: the program is a fact of the text, so that `run` and `code` may be asked for it as for any other
-- text.
use Rattle.std.specs.Prelude.{ℕ, List, [], ◌∷◌, ◌++◌, codes, decimal}
use Rattle.std.specs.Borrow.{Bor}
use Rattle.std.specs.List.{flat_map}

-- the line that gives the size
abbrev pub size_line : ℕ → List ℕ
size_line size = codes "const n = " ++ decimal size ++ codes ";"

-- the lines below it: each node takes ten numbers from one channel and sends them on by the next, with its own number
-- added; the body sends the numbers from 1 to 10 through all nodes, and writes the sum of what comes out
abbrev pub lines_below : List (List ℕ)
lines_below =
    codes "type chan = *(integer); net = array [0..n] of chan;"
    ∷ codes "var c: net; i, j, r, s: integer;"
    ∷ codes "procedure node(k: integer; a, b: chan);"
    ∷ codes "var m, x: integer;"
    ∷ codes "begin for m := 1 to 10 do begin receive(a, x); send(b, x + k) end end;"
    ∷ codes "begin"
    ∷ codes "  for i := 0 to n do open(c[i]);"
    ∷ codes "  s := 0;"
    ∷ codes "  parallel for i := 1 to 10 do send(c[0], i)"
    ∷ codes "  | forall k := 1 to n do node(k, c[k-1], c[k])"
    ∷ codes "  | for j := 1 to 10 do begin receive(c[n], r); s := s + r end"
    ∷ codes "  end;"
    ∷ codes "  write(s)"
    ∷ codes "end."
    ∷ []

-- the lines of the program with as many nodes as its size says
abbrev pub generated_lines : ℕ → List (List ℕ)
generated_lines size = codes "program gen;" ∷ size_line size ∷ lines_below

-- a line with its line feed
abbrev pub line_text : List ℕ → List ℕ
line_text line = line ++ codes "\n"

-- the same of a line that is given by reference
abbrev pub lent_line_text : Bor (List ℕ) → List ℕ
lent_line_text line = line_text line.now

-- the whole text
abbrev pub generated_text : ℕ → List ℕ
generated_text size = flat_map line_text (generated_lines size)

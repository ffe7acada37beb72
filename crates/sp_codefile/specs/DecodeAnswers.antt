-- None of this belongs to what the program promises: it is for contracts between crates.
-- What reading a code file answers: the contract of `decode`. It says both that the answer is right and that there is
-- no other.
use Rattle.std.specs.Prelude.{◌≡◌, List, ℕ, Result, Ok, Err}
use Rattle.sp_code.specs.declared.code.Parts.{Parts}
use Rattle.sp_codefile.specs.declared.decoder.DecodeError.{DecodeError}
use Rattle.sp_codefile.specs.declared.decoder.DecodeError.TheVariants as error
use Rattle.sp_codefile.specs.CodeText.{IsTextOf, IsFirstBad}

-- the bytes are the text of the code that is given, and of no other; or they are the text of none, and this line is the
-- first bad one
abbrev pub Decodes : List ℕ → Result Parts DecodeError → Type 0
Decodes bytes (Ok p) = IsTextOf p bytes × ((q : Parts) → IsTextOf q bytes → q ≡ p)
Decodes bytes (Err (error.BadLine n)) = IsFirstBad n bytes
Decodes bytes (Err error.Memory) = Unit {0}

-- What stands at a spot, by what is known of it.
use Rattle.std.proofs.Common.{◌≡◌, ℕ, List, Option, Some, None, refl}
use Rattle.std.specs.Prelude.{IsSome}
use Rattle.sp_cell.specs.declared.cell.Cell.{Cell as OneCell}
use Rattle.sp_cell.specs.Map.{Content, Output as Bytes}
use Rattle.sp_code.specs.PlainStore.{piece_of}

pub known_piece : (c : Option Content) (cs : List OneCell) → piece_of c ≡ Some cs → IsSome c
known_piece None cs e = absurd (cc e)
known_piece (Some c) cs e = refl

pub known_bytes : (c : Option Content) (bs : List ℕ) → c ≡ Some (Bytes bs) → IsSome c
known_bytes None bs e = absurd (cc e)
known_bytes (Some c) bs e = refl

pub none_unknown : (c : Option Content) → c ≡ None → IsSome c → ⊥
none_unknown None e k = absurd (cc k)
none_unknown (Some c) e k = absurd (cc e)

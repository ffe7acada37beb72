-- Straight code: an instruction leads to the next one, or nowhere.
use Rattle.std.proofs.Common.{ℕ, ◌+◌, ◌≤◌, List, [], ◌∷◌, ◌++◌, Option, Some, None, Bool, true, false, if◌then◌else◌}
use Rattle.sp_tree.specs.declared.checked.KindOf.{KindOf}
use Rattle.sp_tree.specs.declared.checked.KindOf.TheVariants as kind
use Rattle.sp_tree.specs.declared.checked.Role.{Role}
use Rattle.sp_tree.specs.declared.checked.Role.TheVariants as role
use Rattle.sp_tree.specs.declared.operators.UnaryOp.{UnaryOp}
use Rattle.sp_tree.specs.declared.operators.UnaryOp.TheVariants as unary
use Rattle.sp_tree.specs.declared.operators.BinaryOp.{BinaryOp}
use Rattle.sp_tree.specs.declared.operators.BinaryOp.TheVariants as binary
use Rattle.sp_tree.specs.declared.operators.StandardFn.{StandardFn}
use Rattle.sp_tree.specs.declared.operators.StandardFn.TheVariants as standard
use Rattle.sp_tree.specs.Plain.{Variable, Block}
use Rattle.sp_code.specs.declared.instr.Instr.{Instr}
use Rattle.sp_code.specs.declared.instr.Instr.TheVariants as i
use Rattle.sp_code.specs.TreeCode.{unary_code, binary_instr, standard_code, input_instr, read_instr, index_instr}
use Rattle.sp_code.specs.TreeCode.{write_instr, reading_instr, assign_instr, addr_by, addr_of, call_instr}
use Rattle.sp_code.specs.Ranks.{ways}
use Rattle.sp_code.specs.Scopes.{Sort, Ordinals, Channels, Many, NoSort, Scope}
use Rattle.sp_link.proofs.BoundedRanks.{AllMost}

abbrev pub IsStraight : Instr → Type 0
IsStraight x = (f : ℕ → ℕ) (q b : ℕ) → f (q + 1) ≤ b → AllMost f b (ways q (Some x))

abbrev pub AllStraight : List Instr → Type 0
AllStraight [] = Unit {0}
AllStraight (x ∷ xs) = IsStraight x × AllStraight xs

pub both : (xs ys : List Instr) → AllStraight xs → AllStraight ys → AllStraight (xs ++ ys)
both [] ys h k = k
both (x ∷ xs) ys h k = (h.0, both xs ys h.1 k)

pub last : (xs : List Instr) (x : Instr) → AllStraight xs → IsStraight x → AllStraight (xs ++ x ∷ [])
last xs x h k = both xs (x ∷ []) h (k, tt)

pub unary_straight : (op : UnaryOp) → AllStraight (unary_code op)
unary_straight unary.Plus = tt
unary_straight unary.Minus = (λ f q b h. (h, tt), tt)
unary_straight unary.Not = (λ f q b h. (h, tt), tt)

pub binary_straight : (op : BinaryOp) → IsStraight (binary_instr op)
binary_straight binary.Eq = λ f q b h. (h, tt)
binary_straight _ = λ f q b h. (h, tt)

pub standard_straight : (g : StandardFn) (t : Option KindOf) → AllStraight (standard_code g t)
standard_straight standard.Ord t = tt
standard_straight standard.Eof t = tt
standard_straight standard.Eoln t = tt
standard_straight _ _ = (λ f q b h. (h, tt), tt)

pub input_straight : (g : StandardFn) → IsStraight (input_instr g)
input_straight standard.Eof = λ f q b h. (h, tt)
input_straight standard.Eoln = λ f q b h. (h, tt)
input_straight _ = λ f q b h. tt

pub read_straight : (s : Sort) (n : ℕ) → IsStraight (read_instr s n)
read_straight Ordinals n = λ f q b h. (h, tt)
read_straight Channels n = λ f q b h. (h, tt)
read_straight Many n = λ f q b h. (h, tt)
read_straight NoSort n = λ f q b h. tt

pub index_straight : (t : Option KindOf) (n : ℕ) → IsStraight (index_instr t n)
index_straight None n = λ f q b h. tt
index_straight (Some kind.Integer) n = λ f q b h. tt
index_straight (Some kind.Boolean) n = λ f q b h. tt
index_straight (Some kind.Char) n = λ f q b h. tt
index_straight (Some (kind.Enumeration m)) n = λ f q b h. tt
index_straight (Some (kind.Array low high index element)) n = λ f q b h. (h, tt)
index_straight (Some (kind.Fields fs)) n = λ f q b h. tt
index_straight (Some (kind.Channel ks)) n = λ f q b h. tt

pub write_straight : (t : Option KindOf) (w : Bool) → IsStraight (write_instr t w)
write_straight None w = λ f q b h. tt
write_straight (Some kind.Integer) true = λ f q b h. (h, tt)
write_straight (Some kind.Integer) false = λ f q b h. (h, tt)
write_straight (Some kind.Boolean) true = λ f q b h. (h, tt)
write_straight (Some kind.Boolean) false = λ f q b h. (h, tt)
write_straight (Some kind.Char) true = λ f q b h. (h, tt)
write_straight (Some kind.Char) false = λ f q b h. (h, tt)
write_straight (Some (kind.Enumeration n)) w = λ f q b h. tt
write_straight (Some (kind.Array low high index element)) w = λ f q b h. tt
write_straight (Some (kind.Fields fs)) w = λ f q b h. tt
write_straight (Some (kind.Channel ks)) w = λ f q b h. tt

pub text_straight : (w : Bool) (n : ℕ) → IsStraight (if w then i.WritewText n else i.WriteText n)
text_straight true n = λ f q b h. (h, tt)
text_straight false n = λ f q b h. (h, tt)

pub reading_straight : (t : Option KindOf) → IsStraight (reading_instr t)
reading_straight None = λ f q b h. tt
reading_straight (Some kind.Integer) = λ f q b h. (h, tt)
reading_straight (Some kind.Boolean) = λ f q b h. tt
reading_straight (Some kind.Char) = λ f q b h. (h, tt)
reading_straight (Some (kind.Enumeration n)) = λ f q b h. tt
reading_straight (Some (kind.Array low high index element)) = λ f q b h. tt
reading_straight (Some (kind.Fields fs)) = λ f q b h. tt
reading_straight (Some (kind.Channel ks)) = λ f q b h. tt

pub assign_straight : (s : Sort) (n : ℕ) → IsStraight (assign_instr s n)
assign_straight Ordinals n = λ f q b h. (h, tt)
assign_straight Channels n = λ f q b h. (h, tt)
assign_straight Many n = λ f q b h. (h, tt)
assign_straight NoSort n = λ f q b h. tt

role_straight : (sc : List Scope) (x k : ℕ) (v : Variable) (r : Role) → IsStraight (addr_by sc x k v r)
role_straight sc x k v role.Console = λ f q b h. tt
role_straight _ _ _ _ _ = λ f q b h. (h, tt)

pub addr_straight : (sc : List Scope) (x k : ℕ) (v : Option Variable) → IsStraight (addr_of sc x k v)
addr_straight sc x k None = λ f q b h. tt
addr_straight sc x k (Some v) = role_straight sc x k v v.role

pub call_straight : (sc : List Scope) (g : ℕ) (k : Option Block) → IsStraight (call_instr sc g k)
call_straight sc g None = λ f q b h. tt
call_straight sc g (Some k) = λ f q b h. tt

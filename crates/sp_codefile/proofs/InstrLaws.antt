-- Laws of instructions and their words.
use Rattle.std.proofs.Common.{◌≡◌, ℕ, ◌^◌, ◌<◌, ◌&&◌, nat_le, Bool, true, not, ℤ, pos, List, [], ◌∷◌, ◌++◌}
use Rattle.std.proofs.Common.{Some, None, refl, ap, ◌∙◌, subst, arith}
use Rattle.std.specs.Fmt.{signed_decimal, decimal}
use Rattle.std.specs.Int.Signed.{mag}
use Rattle.std.specs.List.{flat_map}
use Rattle.std.proofs.lemmas.Bool.{not-true}
use Rattle.std.proofs.lemmas.Option.{none-some, same_Some}
use Rattle.sp_base.proofs.Facts.{first_true, second_true}
use Rattle.sp_code.specs.declared.instr.Instr.{Instr}
use Rattle.sp_code.specs.declared.instr.Instr.TheVariants as i
use Rattle.sp_code.specs.Listing.{word, operands, operand_text}
use Rattle.sp_codefile.specs.declared.opcodes.Operand.{Operand}
use Rattle.sp_codefile.specs.CodeText.{IsNumber, IsInteger, InstrFits}
use Rattle.sp_codefile.specs.Cuts.{word_of, class_cut}
use Rattle.sp_codefile.specs.Opcodes.{instr_named, with_operands}
use Rattle.sp_codefile.proofs.WordLaws.{AtBlank, Outside, AtClass, follow, blank_at, class_at, signed_no_blank}
use Rattle.sp_codefile.proofs.WordLaws.{begins_signed, integer_small}

-- a word of letters and blanks
abbrev lettered : List ℕ → Bool
lettered [] = true
lettered (x ∷ xs) = not (nat_le 45 x && nat_le x 57) && lettered xs

outside : (xs : List ℕ) → lettered xs ≡ true → Outside 45 57 xs
outside [] e = tt
outside (x ∷ xs) e = (
  not-true (nat_le 45 x
      && nat_le x 57) (first_true (not (nat_le 45 x
      && nat_le x 57)) (lettered xs) e),
  outside xs (second_true (not (nat_le 45 x && nat_le x 57)) (lettered xs) e),
)

is_lettered : (x : Instr) → lettered (word x) ≡ true
is_lettered (i.Const x) = refl
is_lettered _ = refl

pub word_outside : (x : Instr) → Outside 45 57 (word x)
word_outside x = outside (word x) (is_lettered x)

-- the instruction with operands of 0
abbrev pub plain : Instr → Instr
plain (i.Const x) = i.Const (pos 0)
plain (i.Addr x y) = i.Addr 0 0
plain (i.Deref x y) = i.Deref 0 0
plain (i.Index x y z) = i.Index (pos 0) (pos 0) 0
plain (i.Field x) = i.Field 0
plain (i.Copy x) = i.Copy 0
plain (i.Range x y) = i.Range (pos 0) (pos 0)
plain (i.Succ x) = i.Succ (pos 0)
plain (i.Pred x) = i.Pred (pos 0)
plain (i.Jump x) = i.Jump 0
plain (i.Jumpf x) = i.Jumpf 0
plain (i.Casej x y) = i.Casej (pos 0) 0
plain (i.Forup x y) = i.Forup 0 0
plain (i.Fordown x y) = i.Fordown 0 0
plain (i.Nextup x y) = i.Nextup 0 0
plain (i.Nextdown x y) = i.Nextdown 0 0
plain (i.Call x y) = i.Call 0 0
plain (i.WriteText x) = i.WriteText 0
plain (i.WritewText x) = i.WritewText 0
plain (i.Pack x) = i.Pack 0
plain (i.Send x) = i.Send 0
plain (i.Receive x) = i.Receive 0
plain (i.Fork x) = i.Fork 0
plain (i.Forall x) = i.Forall 0
plain x = x

pub named_plain : (x : Instr) → instr_named (word x) ≡ Some (plain x)
named_plain (i.Const x) = refl
named_plain _ = refl

-- a word was read as this operand, where it is one
pub record IsRead (z : ℤ) (a : Operand) : Type 0 where
  pub integer : IsInteger z → a.integer ≡ z
  pub number : (n : ℕ) → IsNumber n → z ≡ pos n → a.number ≡ n

abbrev pub AreReadAs : List ℤ → List Operand → Type 0
AreReadAs [] ops = Unit {0}
AreReadAs (z ∷ zs) [] = Unit {0}
AreReadAs (z ∷ zs) (a ∷ ops) = IsRead z a × AreReadAs zs ops

pub filled_plain : (x : Instr) → InstrFits x → (a b c : Operand) → AreReadAs (operands x) (a ∷ b ∷ c ∷ [])
    → with_operands (plain x) a b c ≡ x
filled_plain (i.Const x) f a b c h = ap i.Const (h.0.integer f)
filled_plain (i.Addr x y) f a b c h =
    let (x_read, (y_read, _)) = h in
    let e0 = x_read.number x f.0 refl in
    let e1 = y_read.number y f.1 refl in λ j. i.Addr (e0 j) (e1 j)
filled_plain (i.Deref x y) f a b c h =
    let (x_read, (y_read, _)) = h in
    let e0 = x_read.number x f.0 refl in
    let e1 = y_read.number y f.1 refl in λ j. i.Deref (e0 j) (e1 j)
filled_plain (i.Index x y z) f a b c h =
    let (x_read, (y_read, (z_read, _))) = h in
    let e0 = x_read.integer f.0 in
    let e1 = y_read.integer f.1 in
    let e2 = z_read.number z f.2 refl in λ j. i.Index (e0 j) (e1 j) (e2 j)
filled_plain (i.Field x) f a b c h = ap i.Field (h.0.number x f refl)
filled_plain (i.Copy x) f a b c h = ap i.Copy (h.0.number x f refl)
filled_plain (i.Range x y) f a b c h =
    let (x_read, (y_read, _)) = h in
    let e0 = x_read.integer f.0 in
    let e1 = y_read.integer f.1 in λ j. i.Range (e0 j) (e1 j)
filled_plain (i.Succ x) f a b c h = ap i.Succ (h.0.integer f)
filled_plain (i.Pred x) f a b c h = ap i.Pred (h.0.integer f)
filled_plain (i.Jump x) f a b c h = ap i.Jump (h.0.number x f refl)
filled_plain (i.Jumpf x) f a b c h = ap i.Jumpf (h.0.number x f refl)
filled_plain (i.Casej x y) f a b c h =
    let (x_read, (y_read, _)) = h in
    let e0 = x_read.integer f.0 in
    let e1 = y_read.number y f.1 refl in λ j. i.Casej (e0 j) (e1 j)
filled_plain (i.Forup x y) f a b c h =
    let (x_read, (y_read, _)) = h in
    let e0 = x_read.number x f.0 refl in
    let e1 = y_read.number y f.1 refl in λ j. i.Forup (e0 j) (e1 j)
filled_plain (i.Fordown x y) f a b c h =
    let (x_read, (y_read, _)) = h in
    let e0 = x_read.number x f.0 refl in
    let e1 = y_read.number y f.1 refl in λ j. i.Fordown (e0 j) (e1 j)
filled_plain (i.Nextup x y) f a b c h =
    let (x_read, (y_read, _)) = h in
    let e0 = x_read.number x f.0 refl in
    let e1 = y_read.number y f.1 refl in λ j. i.Nextup (e0 j) (e1 j)
filled_plain (i.Nextdown x y) f a b c h =
    let (x_read, (y_read, _)) = h in
    let e0 = x_read.number x f.0 refl in
    let e1 = y_read.number y f.1 refl in λ j. i.Nextdown (e0 j) (e1 j)
filled_plain (i.Call x y) f a b c h =
    let (x_read, (y_read, _)) = h in
    let e0 = x_read.number x f.0 refl in
    let e1 = y_read.number y f.1 refl in λ j. i.Call (e0 j) (e1 j)
filled_plain (i.WriteText x) f a b c h = ap i.WriteText (h.0.number x f refl)
filled_plain (i.WritewText x) f a b c h = ap i.WritewText (h.0.number x f refl)
filled_plain (i.Pack x) f a b c h = ap i.Pack (h.0.number x f refl)
filled_plain (i.Send x) f a b c h = ap i.Send (h.0.number x f refl)
filled_plain (i.Receive x) f a b c h = ap i.Receive (h.0.number x f refl)
filled_plain (i.Fork x) f a b c h = ap i.Fork (h.0.number x f refl)
filled_plain (i.Forall x) f a b c h = ap i.Forall (h.0.number x f refl)
filled_plain _ _ _ _ _ _ = refl

-- each operand is written in a word of digits
abbrev pub AreSmall : List ℤ → Type 0
AreSmall [] = Unit {0}
AreSmall (z ∷ zs) = (mag z < 2 ^ 63) × AreSmall zs

pub operands_small : (x : Instr) → InstrFits x → AreSmall (operands x)
operands_small (i.Const x) f = (integer_small x f, tt)
operands_small (i.Addr x y) f = (let a = f.0 in omega arith, (let a = f.1 in omega arith, tt))
operands_small (i.Deref x y) f = (let a = f.0 in omega arith, (let a = f.1 in omega arith, tt))
operands_small (i.Index x y z) f = (integer_small x f.0, (integer_small y f.1, (let a = f.2 in omega arith, tt)))
operands_small (i.Field x) f = (let a = f in omega arith, tt)
operands_small (i.Copy x) f = (let a = f in omega arith, tt)
operands_small (i.Range x y) f = (integer_small x f.0, (integer_small y f.1, tt))
operands_small (i.Succ x) f = (integer_small x f, tt)
operands_small (i.Pred x) f = (integer_small x f, tt)
operands_small (i.Jump x) f = (let a = f in omega arith, tt)
operands_small (i.Jumpf x) f = (let a = f in omega arith, tt)
operands_small (i.Casej x y) f = (integer_small x f.0, (let a = f.1 in omega arith, tt))
operands_small (i.Forup x y) f = (let a = f.0 in omega arith, (let a = f.1 in omega arith, tt))
operands_small (i.Fordown x y) f = (let a = f.0 in omega arith, (let a = f.1 in omega arith, tt))
operands_small (i.Nextup x y) f = (let a = f.0 in omega arith, (let a = f.1 in omega arith, tt))
operands_small (i.Nextdown x y) f = (let a = f.0 in omega arith, (let a = f.1 in omega arith, tt))
operands_small (i.Call x y) f = (let a = f.0 in omega arith, (let a = f.1 in omega arith, tt))
operands_small (i.WriteText x) f = (let a = f in omega arith, tt)
operands_small (i.WritewText x) f = (let a = f in omega arith, tt)
operands_small (i.Pack x) f = (let a = f in omega arith, tt)
operands_small (i.Send x) f = (let a = f in omega arith, tt)
operands_small (i.Receive x) f = (let a = f in omega arith, tt)
operands_small (i.Fork x) f = (let a = f in omega arith, tt)
operands_small (i.Forall x) f = (let a = f in omega arith, tt)
operands_small _ _ = tt

at_operands : (zs : List ℤ) → AreSmall zs → AtClass 45 57 (flat_map operand_text zs)
at_operands [] s = tt
at_operands (z ∷ zs) s = (refl, begins_signed z (flat_map operand_text zs) s.0)

-- the word of an instruction ends where its operands begin
pub instr_cut : (x : Instr) → InstrFits x
    → class_cut 45 57 (word x ++ flat_map operand_text (operands x)) ≡ (word x, flat_map operand_text (operands x))
instr_cut x f = class_at 45 57 (word x) (flat_map operand_text (operands x)) refl (word_outside x)
    (at_operands (operands x) (operands_small x f))

-- what a word says, read as an operand
pub record WordReads (w : List ℕ) (a : Operand) : Type 0 where
  pub number : (n : ℕ) → IsNumber n → w ≡ decimal n → a.number ≡ n
  pub integer : (z : ℤ) → IsInteger z → w ≡ signed_decimal z → a.integer ≡ z

blank_operands : (zs : List ℤ) → AtBlank (flat_map operand_text zs)
blank_operands [] = tt
blank_operands (z ∷ zs) = refl

pub operand_cut : (z : ℤ) (zs : List ℤ) → mag z < 2 ^ 63
    → word_of (flat_map operand_text (z ∷ zs)) ≡ (signed_decimal z, flat_map operand_text zs)
operand_cut z zs l = blank_at (signed_decimal z) (flat_map operand_text zs) (signed_no_blank z l) (blank_operands zs)

one_read : (z : ℤ) (w : List ℕ) (a : Operand) → w ≡ signed_decimal z → WordReads w a → IsRead z a
one_read z w a e r = record { integer = λ f. r.integer z f e; number = λ n f g. r.number n f (e ∙ ap signed_decimal g) }

-- the operands in the words of a text, each of which was read
pub agree : (zs : List ℤ) (t u v : List ℕ) (a b c : Operand) → AreSmall zs → t ≡ flat_map operand_text zs
    → WordReads (word_of t).0 a → u ≡ (word_of t).1 → WordReads (word_of u).0 b → v ≡ (word_of u).1
    → WordReads (word_of v).0 c
    → AreReadAs zs (a ∷ b ∷ c ∷ [])
agree [] t u v a b c s e ra eu rb ev rc = tt
agree (x ∷ []) t u v a b c s e ra eu rb ev rc = let f = ap word_of e
    ∙ operand_cut x [] s.0 in (one_read x _ a (ap (λ (p : List ℕ × List ℕ). p.0) f) ra, tt)
agree (x ∷ (y ∷ [])) t u v a b c s e ra eu rb ev rc =
    let (x_small, (y_small, _)) = s in
    let f = ap word_of e ∙ operand_cut x (y ∷ []) x_small in
    let g = ap word_of (eu ∙ ap (λ (p : List ℕ × List ℕ). p.1) f) ∙ operand_cut y [] y_small in (
      one_read x _ a (ap (λ (p : List ℕ × List ℕ). p.0) f) ra,
      (one_read y _ b (ap (λ (p : List ℕ × List ℕ). p.0) g) rb, tt),
    )
agree (x ∷ (y ∷ (z ∷ zs))) t u v a b c s e ra eu rb ev rc =
    let (x_small, (y_small, (z_small, _))) = s in
    let f = ap word_of e ∙ operand_cut x (y ∷ (z ∷ zs)) x_small in
    let g = ap word_of (eu ∙ ap (λ (p : List ℕ × List ℕ). p.1) f) ∙ operand_cut y (z ∷ zs) y_small in
    let h = ap word_of (ev ∙ ap (λ (p : List ℕ × List ℕ). p.1) g) ∙ operand_cut z zs z_small in (
      one_read x _ a (ap (λ (p : List ℕ × List ℕ). p.0) f) ra,
      (
        one_read y _ b (ap (λ (p : List ℕ × List ℕ). p.0) g) rb,
        (one_read z _ c (ap (λ (p : List ℕ × List ℕ). p.0) h) rc, all zs),
      ),
    )
  where
    all : (zs : List ℤ) → AreReadAs zs []
    all [] = tt
    all (z ∷ zs) = tt

-- an instruction that is read from its text
pub read_back : (x : Instr) → InstrFits x → (t name r0 r1 r2 w1 w2 w3 : List ℕ) (y : Instr) (a b c : Operand)
    → t ≡ word x ++ flat_map operand_text (operands x)
    → name ≡ (class_cut 45 57 t).0 → r0 ≡ (class_cut 45 57 t).1 → w1 ≡ (word_of r0).0 → r1 ≡ (word_of r0).1
    → w2 ≡ (word_of r1).0 → r2 ≡ (word_of r1).1 → w3 ≡ (word_of r2).0
    → Some y ≡ instr_named name → WordReads w1 a → WordReads w2 b → WordReads w3 c → with_operands y a b c ≡ x
read_back x f t name r0 r1 r2 w1 w2 w3 y a b c e en e0 f1 e1 f2 e2 f3 h ra rb rc =
    let k = follow (class_cut 45 57) t _ (word x) (flat_map operand_text (operands x)) name r0 e
    (instr_cut x f) en e0 in
    let is : y ≡ plain x = same_Some y (plain x) (h ∙ ap instr_named k.0 ∙ named_plain x) in
    let all = agree (operands x) r0 r1 r2 a b c (operands_small x f) k.1
    (subst (λ (w : List ℕ). WordReads w a) f1 ra) e1
    (subst (λ (w : List ℕ). WordReads w b) f2 rb) e2 (subst (λ (w : List ℕ). WordReads w c) f3 rc) in
    ap (λ (z : Instr). with_operands z a b c) is ∙ filled_plain x f a b c all

pub has_name : (x : Instr) → InstrFits x → (t name : List ℕ) → t ≡ word x ++ flat_map operand_text (operands x)
    → name ≡ (class_cut 45 57 t).0 → None ≡ instr_named name → ⊥
has_name x f t name e en h = none-some (plain x) (h
    ∙ ap instr_named (en ∙ ap (λ (z : List ℕ). (class_cut 45 57 z).0) e
    ∙ ap (λ (p : List ℕ × List ℕ). p.0) (instr_cut x f)) ∙ named_plain x)

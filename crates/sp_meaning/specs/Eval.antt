-- All of this belongs to what the program promises (docs/promise.txt).
-- Expressions, variables and arguments, evaluated from left to right. Actions are made of it; each evaluation
-- is a tree of reads and writes.
use Rattle.std.specs.Option.{option_map}
use Rattle.std.specs.Prelude.{ℕ, ◌==◌, ℤ, pos, ◌-ℤ◌, nat_abs, int_le, List, [], ◌∷◌, ◌++◌, Option, None, ◌&&◌}
use Rattle.std.specs.Prelude.{not, if◌then◌else◌, length, drop, slice_get}
use Rattle.sp_base.specs.declared.fault.Fault.TheVariants as fault
use Rattle.sp_tree.specs.declared.checked.KindOf.{KindOf}
use Rattle.sp_tree.specs.declared.checked.KindOf.TheVariants as kind
use Rattle.sp_tree.specs.declared.checked.Role.{Role}
use Rattle.sp_tree.specs.declared.checked.Role.TheVariants as role
use Rattle.sp_tree.specs.declared.operators.BinaryOp.{BinaryOp}
use Rattle.sp_tree.specs.declared.operators.BinaryOp.TheVariants as binary
use Rattle.sp_tree.specs.declared.operators.StandardFn.{StandardFn}
use Rattle.sp_tree.specs.declared.operators.StandardFn.TheVariants as standard
use Rattle.sp_tree.specs.Plain.{Expr, Typed, ExprForm, Number, Read, Unary, Binary, Apply, Standard, AtInput, Var}
use Rattle.sp_tree.specs.Plain.{Entire, Index, Field, Selectors, Whole, Select, ByValue, ByReference, Actuals, Nothing}
use Rattle.sp_tree.specs.Plain.{Pass, Variable}
use Rattle.sp_meaning.specs.Model.{Channel, same_channel}
use Rattle.sp_meaning.specs.Values.{Value, Undefined, Ordinal, Chan, Parts}
use Rattle.sp_meaning.specs.LocalWork.{Cell, Input, Address, Home, OfBlock, OfIndex, Frame, RunInput, Work, bind, give}
use Rattle.sp_meaning.specs.LocalWork.{fail}
use Rattle.sp_meaning.specs.LocalWork.{ill_formed, read_location, fetch, or_ill_formed, position_in, visible_frame}
use Rattle.sp_meaning.specs.LocalWork.{is_block, is_index, reference_target}
use Rattle.sp_meaning.specs.Operators.{OperatorResult, Yields, OperatorFault, truth, value_in_range, successor}
use Rattle.sp_meaning.specs.Operators.{predecessor, absolute_value, square}
use Rattle.sp_meaning.specs.Operators.{is_odd, unary_op, binary_op, least_ordinal, greatest_ordinal}
use Rattle.sp_meaning.specs.Texts.{at_line_end}

-- where a variable stands: an address, or a forall's index with its value
pub data Place : Type 0 where
  AtAddress : (a : Address) → Place
  Fixed : (n : ℤ) → Place

-- an evaluated argument
pub data ArgumentValue : Type 0 where
  ValueOf : (v : Value) → ArgumentValue
  PlaceOf : (a : Address) → ArgumentValue

-- what a call of a function gives
abbrev pub Calls : Type 0
Calls = ℕ → List ArgumentValue → Work Value

-- what an operator gives
abbrev pub work_of : OperatorResult → Work Value
work_of (Yields n) = give (Ordinal n)
work_of (OperatorFault f) = fail f

-- the ordinal that an evaluated expression is
abbrev pub ordinal : Value → Work ℤ
ordinal (Ordinal n) = give n
ordinal _ = ill_formed

-- the channel that a value is
abbrev pub channel : Value → Work Channel
channel (Chan c) = give c
channel _ = ill_formed

-- the value of an expression of an ordinal type, as a number
abbrev pub as_ordinal : Work Value → Work ℤ
as_ordinal h = bind h ordinal

-- operators

-- an operator between channels
abbrev pub channels_op : BinaryOp → Channel → Channel → Work Value
channels_op binary.Eq c d = work_of (truth (same_channel c d))
channels_op binary.Ne c d = work_of (truth (not (same_channel c d)))
channels_op _ _ _ = ill_formed

-- an operator between two values
abbrev pub operate : BinaryOp → Value → Value → Work Value
operate op Undefined w = ill_formed
operate op (Ordinal m) w = bind (ordinal w) (λ n. work_of (binary_op op m n))
operate op (Chan c) w = bind (channel w) (λ d. channels_op op c d)
operate op (Parts vs) w = ill_formed

-- a standard function of one argument; the type is that of the result
abbrev pub standard_op : StandardFn → KindOf → ℤ → Work Value
standard_op standard.Abs k n = work_of (absolute_value n)
standard_op standard.Sqr k n = work_of (square n)
standard_op standard.Odd k n = work_of (is_odd n)
standard_op standard.Ord k n = give (Ordinal n)
standard_op standard.Chr k n = work_of (value_in_range (pos 0) (pos 255) n)
standard_op standard.Succ k n = work_of (successor (greatest_ordinal k) n)
standard_op standard.Pred k n = work_of (predecessor (least_ordinal k) n)
standard_op _ _ _ = ill_formed

-- eof and eoln, of what is left of the input
abbrev pub input_op : StandardFn → List ℕ → Work Value
input_op standard.Eof bs = work_of (truth (length bs == 0))
input_op standard.Eoln bs = work_of (truth (at_line_end bs))
input_op _ _ = ill_formed

-- what is read of a type: an ordinal (or F4), a channel (or F5), or all parts as they are
abbrev pub ordinal_read : Value → Work Value
ordinal_read (Ordinal n) = give (Ordinal n)
ordinal_read _ = fail fault.F4

-- a channel that is read, or F5
abbrev pub channel_read : Value → Work Value
channel_read (Chan c) = give (Chan c)
channel_read _ = fail fault.F5

-- a value that is read, by its type
abbrev pub checked_value : KindOf → Value → Work Value
checked_value (kind.Array low high index element) v = give v
checked_value (kind.Fields fs) v = give v
checked_value (kind.Channel ks) v = channel_read v
checked_value _ v = ordinal_read v

-- the element at an index, or F1
abbrev pub element_at : Address → ℤ → KindOf → Work Place
element_at a n (kind.Array low high index element) =
    if int_le low n && int_le n high then give
    (AtAddress (record { spot = a.spot; path = a.path ++ nat_abs (n -ℤ low) ∷ []; kind = element })) else fail fault.F1
element_at _ _ _ = ill_formed

abbrev pub field_kind : ℕ → KindOf → Option ℕ
field_kind f (kind.Fields fs) = option_map (λ x. x.1) (slice_get fs f)
field_kind _ _ = None

module _ (g : RunInput) where
  abbrev pub kind_at : ℕ → Work KindOf
  kind_at k = or_ill_formed (slice_get g.program.kinds k)

  -- an element of what stands at a place
  abbrev pub element_place : Place → ℤ → Work Place
  element_place (AtAddress a) n = bind (kind_at a.kind) (element_at a n)
  element_place (Fixed m) n = ill_formed

  -- a field of what stands at a place
  abbrev pub field_place : ℕ → Place → Work Place
  field_place f (AtAddress a) = bind (kind_at a.kind) (λ k. bind (or_ill_formed (field_kind f k))
      (λ t. give (AtAddress (record { spot = a.spot; path = a.path ++ f ∷ []; kind = t }))))
  field_place f (Fixed m) = ill_formed

  -- what stands at a place
  abbrev pub read_at : Place → Work Value
  read_at (AtAddress a) = bind (kind_at a.kind) (λ k. bind (fetch a) (checked_value k))
  read_at (Fixed n) = give (Ordinal n)

  abbrev pub address_of : Place → Work Address
  address_of (AtAddress a) = give a
  address_of (Fixed n) = ill_formed

  -- a variable in a frame
  abbrev pub in_frame : ℕ → Variable → Frame → Address
  in_frame x i f = record { spot = Cell f.owner f.number x; path = []; kind = i.kind }

  -- the index of a frame of a forall
  abbrev pub index_in : Home → Work Place
  index_in (OfBlock b) = ill_formed
  index_in (OfIndex x n) = give (Fixed n)

  -- where an entire variable stands
  abbrev pub place_by : ℕ → Variable → Role → Work Place
  place_by x i role.Console = ill_formed
  place_by x i role.Reference = bind (visible_frame (is_block i.block))
      (λ f. bind (or_ill_formed (reference_target x f.references)) (λ a. give (AtAddress a)))
  place_by x i role.Index = bind (visible_frame (is_index x)) (λ f. index_in f.home)
  place_by x i _ = bind (visible_frame (is_block i.block)) (λ f. give (AtAddress (in_frame x i f)))

  -- where a variable stands
  abbrev pub place_of : ℕ → Work Place
  place_of x = bind (or_ill_formed (slice_get g.program.variables x)) (λ i. place_by x i i.role)

  -- what is left of the input
  abbrev pub input_left : Work (List ℕ)
  input_left = bind (read_location Input) (λ h. give (drop (position_in h) g.input))

  abbrev mutual
    -- an expression, with every function that it calls
    pub value : Calls → Expr → Work Value
    value call (Typed k form) = form_value call k form

    pub form_value : Calls → ℕ → ExprForm → Work Value
    form_value call k (Number n) = give (Ordinal n)
    form_value call k (Read v) = bind (place call v) read_at
    form_value call k (Unary op a) = bind (as_ordinal (value call a)) (λ n. work_of (unary_op op n))
    form_value call k (Binary op a b) = bind (value call a) (λ v. bind (value call b) (λ w. operate op v w))
    form_value call k (Apply f args) = bind (actuals call args) (λ gs. call f gs)
    form_value call k (Standard f a) = bind (as_ordinal (value call a)) (λ n. bind (kind_at k) (λ t. standard_op f t n))
    form_value call k (AtInput f) = bind input_left (input_op f)

    -- where a variable with its selectors stands
    pub place : Calls → Var → Work Place
    place call (Entire x ss) = bind (place_of x) (λ q. component_place call ss q)

    pub component_place : Calls → Selectors → Place → Work Place
    component_place call Whole q = give q
    component_place call (Select (Index e) rest) q =
        bind (as_ordinal (value call e)) (λ n. bind (element_place q n) (λ r. component_place call rest r))
    component_place call (Select (Field f) rest) q = bind (field_place f q) (λ r. component_place call rest r)

    -- the arguments of a call
    pub actuals : Calls → Actuals → Work (List ArgumentValue)
    actuals call Nothing = give []
    actuals call (Pass (ByValue e) rest) = bind (value call e)
        (λ v. bind (actuals call rest) (λ gs. give (ValueOf v ∷ gs)))
    actuals call (Pass (ByReference x) rest) =
        bind (place call x) (λ q. bind (address_of q) (λ a. bind (actuals call rest) (λ gs. give (PlaceOf a ∷ gs))))

  abbrev pub address : Calls → Var → Work Address
  address call v = bind (place call v) address_of

  abbrev pub ordinal_of : Calls → Expr → Work ℤ
  ordinal_of call e = as_ordinal (value call e)

-- All of this belongs to what the program promises (docs/promise.txt).
-- Statements in steps: what a process does first, and what is left to do. The language of the model is made of it;
-- generated code is compared with it, and rows of `run_tests` compute it.
use Rattle.std.specs.Option.{option_map_or}
use Rattle.std.specs.Prelude.{ℕ, zero, suc, ◌+◌, ◌-◌, ℤ, pos, ◌+ℤ◌, ◌-ℤ◌, nat_abs, int_lt, int_le, List, [], ◌∷◌, ◌++◌}
use Rattle.std.specs.Prelude.{Option, Some, None, Bool, true, false, if◌then◌else◌, nat_lt, length, take, slice_get}
use Rattle.std.specs.Fmt.{signed_decimal}
use Rattle.sp_base.specs.declared.fault.Fault.TheVariants as fault
use Rattle.sp_tree.specs.declared.checked.KindOf.{KindOf}
use Rattle.sp_tree.specs.declared.checked.KindOf.TheVariants as kind
use Rattle.sp_tree.specs.declared.checked.Role.{Role}
use Rattle.sp_tree.specs.declared.checked.Role.TheVariants as role
use Rattle.sp_tree.specs.Plain.{Expr, Typed, Variable, Block, Stmt, Empty, Assign, Call, Sequence, If, IfElse, While}
use Rattle.sp_tree.specs.Plain.{Repeat, For, Case, Parallel, Forall, Assume, ReadValue, ReadLine, WriteValue, WriteText}
use Rattle.sp_tree.specs.Plain.{WriteLine, Open, Send, Receive, Stmts, No, And, On, Arms, NoArm, Or}
use Rattle.sp_meaning.specs.Model.{Name, Channel, Payload, Message, Takes}
use Rattle.sp_tree.specs.Cells.{variables_of, cells_of_frame}
use Rattle.sp_meaning.specs.Values.{Value, Ordinal, Chan, initials}
use Rattle.sp_meaning.specs.LocalWork.{RunInput, Cell, Input, Output, LocationContent, Tree, Position, Written, Address}
use Rattle.sp_meaning.specs.LocalWork.{Home, OfBlock}
use Rattle.sp_meaning.specs.LocalWork.{OfIndex, Frame, LocalState, Identity, Item, Do, First, Again, Test, Leave, Break}
use Rattle.sp_meaning.specs.LocalWork.{Process, Work}
use Rattle.sp_meaning.specs.LocalWork.{bind, give, fail, ill_formed, out_of_fuel, local_state, who, set_local_state}
use Rattle.sp_meaning.specs.LocalWork.{read_location, write_location, fetch, assign, or_ill_formed}
use Rattle.sp_meaning.specs.LocalWork.{position_in, bytes_in, link_to, is_block, tick, deepen, widen}
pub use Rattle.sp_meaning.specs.Operators.{is_range, is_before, next_value}
use Rattle.sp_meaning.specs.Operators.{same_ordinal}
use Rattle.sp_meaning.specs.Texts.{ReadResult, ReadItem as Took, ReadFault as Stops, number_in, char_in, line_length}
use Rattle.sp_meaning.specs.Texts.{right_justified}
use Rattle.sp_meaning.specs.Texts.{truth_text, byte}
use Rattle.sp_meaning.specs.Eval.{ArgumentValue, ValueOf, PlaceOf, Calls, kind_at, read_at, address_of, place_of}
use Rattle.sp_meaning.specs.Eval.{input_left}
use Rattle.sp_meaning.specs.Eval.{value, actuals, address, ordinal_of, ordinal, channel}

-- a child that is to be born: what it does, and the index of a forall with its value
pub record Birth : Type 0 where
  pub todo : List Item
  pub index : Option (ℕ × ℤ)

-- What a process does: a local step, the like that ends with a tick of its own (a pausing step), or a kernel step
pub data Action : Type 0 where
  Stepped : (todo : List Item) → Action
  Ticked : (todo : List Item) → Action
  Opened : (todo : List Item) → Action
  Forked : (births : List Birth) (todo : List Item) → Action
  Offered : (c : Channel) (kind : ℕ) (payload : Payload LocationContent Address) (todo : List Item) → Action
  Ended : Action

-- a statement goes before what is left; the empty statement and sequences are no steps
abbrev mutual
  pub push : Stmt → List Item → List Item
  push Empty todo = todo
  push (Sequence ss) todo = push_all ss todo
  push s todo = Do s ∷ todo

  pub push_all : Stmts → List Item → List Item
  push_all No todo = todo
  push_all (And s rest) todo = push s (push_all rest todo)

-- the statement of the first arm with this constant
abbrev pub has_constant : ℤ → List ℤ → Bool
has_constant n [] = false
has_constant n (m ∷ ms) = if same_ordinal n m then true else has_constant n ms

-- the arm with this constant
abbrev pub arm_for : ℤ → Arms → Option Stmt
arm_for n NoArm = None
arm_for n (Or (On ms s) rest) = if has_constant n ms then Some s else arm_for n rest

abbrev pub if_true : {A : Type 0} → ℤ → A → A → A
if_true n a b = if int_le n (pos 0) then b else a

-- a loop goes on where its variable is before the limit, or holds no ordinal (and then the step is F4)
abbrev pub goes_on : Bool → ℤ → Value → Bool
goes_on down limit (Ordinal n) = is_before down n limit
goes_on _ _ _ = true

-- frames

-- what stands at first in a variable of a frame, if it has cells of its own
abbrev pub first_value_by : List Value → Role → ℕ → Option Value
first_value_by initials role.Console k = None
first_value_by initials role.Reference k = None
first_value_by initials role.Index k = None
first_value_by initials _ k = slice_get initials k

-- what the variable parameters stand for
abbrev pub references : List ℕ → List ArgumentValue → List (ℕ × Address)
references [] gs = []
references (x ∷ xs) [] = []
references (x ∷ xs) (ValueOf v ∷ gs) = references xs gs
references (x ∷ xs) (PlaceOf a ∷ gs) = (x, a) ∷ references xs gs

-- the text of an item with its width: the bytes, or F1
abbrev pub in_width : Bool → List ℕ → Option ℤ → Work (List ℕ)
in_width cut t None = give t
in_width cut t (Some m) = if int_le m (pos 0) then fail fault.F1 else
    give (right_justified (nat_abs m) (if cut then take (nat_abs m) t else t))

-- an item of a type as text, and whether a width cuts it
abbrev pub ordinal_text : KindOf → ℤ → Bool × List ℕ
ordinal_text kind.Integer n = (false, signed_decimal n)
ordinal_text kind.Boolean n = (true, truth_text n)
ordinal_text kind.Char n = (false, byte n ∷ [])
ordinal_text _ _ = (false, [])

-- what is read of a type
abbrev pub reading_by : KindOf → List ℕ → Option ReadResult
reading_by kind.Integer bs = Some (number_in bs)
reading_by kind.Char bs = Some (char_in bs)
reading_by _ _ = None

-- one child for each process statement
abbrev pub children : Stmts → List Birth
children No = []
children (And s rest) = record { todo = push s []; index = None } ∷ children rest

-- one child for each of n values from low on
abbrev pub indexed_children : ℕ → Stmt → ℤ → ℕ → List Birth
indexed_children x s low zero = []
indexed_children x s low (suc n) = record { todo = push s []; index = Some (x, low) }
    ∷ indexed_children x s (low +ℤ pos 1) n

-- a forall's child has its index in a frame of its own
abbrev pub with_index : Name → Option (ℕ × ℤ) → List Frame → List Frame
with_index q None fs = fs
with_index q (Some x) fs =
    record { owner = q; number = length fs; home = OfIndex x.0 x.1; link = length fs; references = [] } ∷ fs

-- a child is born, of its parent
abbrev pub new_process : Identity → LocalState → ℕ → Birth → Process
new_process w o i b = record {
  todo = b.todo;
  who = record { name = (w.forks, i) ∷ w.name; forks = 0; opens = 0 };
  own = record {
    frames = with_index ((w.forks, i) ∷ w.name) b.index o.frames;
    depth = o.depth + 1;
    ticks = 0;
    cells = 0;
  };
}

-- the processes of a fork, from child i on
abbrev pub new_processes : Identity → LocalState → ℕ → List Birth → List Process
new_processes w o i [] = []
new_processes w o i (b ∷ bs) = new_process w o i b ∷ new_processes w o (suc i) bs

module _ (g : RunInput) where
  abbrev pub size_of_frame : ℕ → ℕ
  size_of_frame b = cells_of_frame g.program b

  -- a variable gets its first value
  abbrev pub lay_one : ℕ → ℕ × Variable → Option Value → Work (Unit {0})
  lay_one n x v = option_map_or (λ v. bind who (λ w. write_location (Cell w.name n x.0) (Tree v))) v (give tt)

  -- the variables of a new frame are undefined
  abbrev pub lay : ℕ → List (ℕ × Variable) → Work (Unit {0})
  lay n [] = give tt
  lay n (x ∷ xs) = bind (lay_one n x (first_value_by (initials g.program.kinds) x.1.role x.1.kind)) (λ u. lay n xs)

  -- the value parameters are copied
  abbrev pub copy_in : ℕ → List ℕ → List ArgumentValue → Work (Unit {0})
  copy_in n (x ∷ xs) (ValueOf v ∷ gs) =
      bind who (λ w. bind (write_location (Cell w.name n x) (Tree v)) (λ u. copy_in n xs gs))
  copy_in n (x ∷ xs) (PlaceOf a ∷ gs) = copy_in n xs gs
  copy_in _ _ _ = give tt

  -- the own part with a new frame
  abbrev pub pushed_frame : ℕ → ℕ → List (ℕ × Address) → Identity → LocalState → LocalState
  pushed_frame b link rs w o = record o {
    frames =
        record { owner = w.name; number = length o.frames; home = OfBlock b; link = link; references = rs } ∷ o.frames;
  }

  -- the frame of the block around
  abbrev pub enclosing_link : Option ℕ → Work ℕ
  enclosing_link q = option_map_or (λ q. link_to (is_block q)) q ill_formed

  -- a call, after its arguments: tick, depth, cells, the new frame
  abbrev pub enter : ℕ → List ArgumentValue → Work Block
  enter f gs =
      bind (or_ill_formed (slice_get g.program.blocks f))
      (λ b. bind (tick g.limits) (λ u. bind (deepen g.limits) (λ u. bind (widen g.limits (size_of_frame f)) (λ u.
      bind (enclosing_link b.parent) (λ link. bind local_state
      (λ o. bind who (λ w. bind (set_local_state (pushed_frame f link (references b.formals gs) w o)) (λ u.
      bind (lay (length o.frames) (variables_of f 0 g.program.variables))
      (λ u. bind (copy_in (length o.frames) b.formals gs) (λ u. give b))))))))))

  abbrev pub cells_of_home : Home → ℕ
  cells_of_home (OfBlock b) = size_of_frame b
  cells_of_home (OfIndex x n) = 0

  -- the own part without its newest frame
  abbrev pub without_frame : List Frame → LocalState → LocalState
  without_frame [] o = o
  without_frame (f ∷ fs) o = record o { frames = fs; depth = o.depth - 1; cells = o.cells - cells_of_home f.home }

  -- the newest frame goes
  abbrev pub leave : Work (Unit {0})
  leave = bind local_state (λ o. set_local_state (without_frame o.frames o))

  -- the output gets a text, or F16
  abbrev pub write : List ℕ → Work (Unit {0})
  write t = bind (read_location Output)
      (λ h. if nat_lt g.limits.output (length (bytes_in h) + length t) then fail fault.F16 else
      write_location Output (Written (bytes_in h ++ t)))

  -- so many bytes of the input are taken
  abbrev pub advance : ℕ → Work (Unit {0})
  advance n = bind (read_location Input) (λ h. write_location Input (Position (position_in h + n)))

  -- an item read goes to an address
  abbrev pub take_in : Address → ReadResult → Work (Unit {0})
  take_in a (Took n bytes) = bind (advance bytes) (λ u. assign a (Ordinal n))
  take_in a (Stops f) = fail f

  -- a width, if there is one
  abbrev pub width : Calls → Option Expr → Work (Option ℤ)
  width call e = option_map_or (λ e. bind (ordinal_of g call e) (λ m. give (Some m))) e (give None)

  -- the value of the for variable, whatever it is
  abbrev pub peek : ℕ → Work Value
  peek x = bind (place_of g x) (λ q. bind (address_of g q) fetch)

  -- the for variable gets a value, and then there is a tick
  abbrev pub turn_of : ℕ → ℤ → ℤ → Bool → Stmt → List Item → Work Action
  turn_of x n limit down s todo =
      bind (place_of g x) (λ q. bind (address_of g q)
      (λ a. bind (assign a (Ordinal n)) (λ u. bind (tick g.limits)
      (λ u. give (Ticked (push s (Again x limit down s ∷ todo)))))))

  -- the children are made, if one level more is allowed
  abbrev pub fork : List Birth → List Item → Work Action
  fork bs todo = bind local_state (λ o. if nat_lt o.depth g.limits.depth then give (Forked bs todo) else fail fault.F11)

  -- the chosen arm's statement, or F9
  abbrev pub arm_action : Option Stmt → List Item → Work Action
  arm_action s todo = option_map_or (λ s. give (Stepped (push s todo))) s (fail fault.F9)

  -- the step of a statement that is first
  abbrev pub statement_action : Calls → Stmt → List Item → Work Action
  statement_action call Empty todo = give (Stepped todo)
  statement_action call (Assign v e) todo = bind (address g call v)
      (λ a. bind (value g call e) (λ w. bind (assign a w) (λ u. give (Stepped todo))))
  statement_action call (Call f args) todo = bind (actuals g call args)
      (λ gs. bind (enter f gs) (λ b. give (Ticked (push b.body (Leave ∷ todo)))))
  statement_action call (Sequence ss) todo = give (Stepped (push_all ss todo))
  statement_action call (If e a) todo = bind (ordinal_of g call e) (λ n. give (Stepped (if_true n (push a todo) todo)))
  statement_action call (IfElse e a b) todo = bind (ordinal_of g call e)
      (λ n. give (Stepped (if_true n (push a todo) (push b todo))))
  statement_action call (While e s) todo = bind (ordinal_of g call e)
      (λ n. if_true n (bind (tick g.limits) (λ u. give (Ticked (push s (Do (While e s) ∷ todo)))))
      (give (Stepped todo)))
  statement_action call (Repeat s e) todo = bind (tick g.limits) (λ u. give (Ticked (push s (Test s e ∷ todo))))
  statement_action call (For x from down to s) todo =
      bind (ordinal_of g call from) (λ m. bind (ordinal_of g call to)
      (λ n. give (Stepped (if is_range down m n then First x m n down s ∷ todo else todo))))
  statement_action call (Case e arms) todo = bind (ordinal_of g call e) (λ n. arm_action (arm_for n arms) todo)
  statement_action call (Parallel ss) todo = fork (children ss) todo
  statement_action call (Forall x from to s) todo =
      bind (ordinal_of g call from) (λ m. bind (ordinal_of g call to) (λ n.
      if int_lt n m then give (Stepped todo) else fork (indexed_children x s m (nat_abs ((n -ℤ m) +ℤ pos 1))) todo))
  statement_action call (Assume e) todo =
      bind (ordinal_of g call e) (λ n. if_true n (give (Stepped todo)) (fail fault.F8))
  statement_action call (ReadValue v) todo =
      bind (address g call v) (λ a. bind (kind_at g a.kind)
      (λ k. bind (input_left g) (λ bs. bind (or_ill_formed (reading_by k bs))
      (λ t. bind (take_in a t) (λ u. give (Stepped todo))))))
  statement_action call ReadLine todo =
      bind (input_left g) (λ bs. bind (advance (line_length bs)) (λ u. give (Stepped todo)))
  statement_action call (WriteValue (Typed k form) w) todo =
      bind (ordinal_of g call (Typed k form)) (λ n. bind (width call w) (λ m. bind (kind_at g k) (λ t.
      bind (in_width (ordinal_text t n).0 (ordinal_text t n).1 m) (λ bs. bind (write bs) (λ u. give (Stepped todo))))))
  statement_action call (WriteText t w) todo = bind (width call w)
      (λ m. bind (in_width true t m) (λ bs. bind (write bs) (λ u. give (Stepped todo))))
  statement_action call WriteLine todo = bind (write (10 ∷ [])) (λ u. give (Stepped todo))
  statement_action call (Open v) todo =
      bind (address g call v) (λ a. bind who
      (λ w. bind (assign a (Chan (record { owner = w.name; nth = w.opens }))) (λ u. give (Opened todo))))
  statement_action call (Send c (Typed k form)) todo =
      bind (value g call c) (λ v. bind (channel v)
      (λ to. bind (value g call (Typed k form)) (λ w. give (Offered to k (Message (Tree w)) todo))))
  statement_action call (Receive c x) todo =
      bind (value g call c) (λ v. bind (channel v)
      (λ from. bind (address g call x) (λ a. give (Offered from a.kind (Takes a) todo))))

  -- the step of what is first
  abbrev pub item_action : Calls → Item → List Item → Work Action
  item_action call (Do s) todo = statement_action call s todo
  item_action call (First x m n down s) todo = turn_of x m n down s todo
  item_action call (Again x n down s) todo = bind (place_of g x)
      (λ q. bind (read_at g q) (λ v. bind (ordinal v) (λ m. turn_of x (next_value down m) n down s todo)))
  item_action call (Test s e) todo =
      bind (ordinal_of g call e) (λ n. give (Stepped (if_true n todo (Do (Repeat s e) ∷ todo))))
  item_action call Leave todo = bind leave (λ u. give (Stepped todo))
  item_action call (Break f) todo = fail f

  -- leaving a loop is no step, but its variable is read
  abbrev pub settle : List Item → Work (List Item)
  settle (Again x n down s ∷ todo) = bind (peek x)
      (λ v. if goes_on down n v then give (Again x n down s ∷ todo) else settle todo)
  settle todo = give todo

  -- what is left to do after a local step. A function's body has no other (rule I9)
  abbrev pub items_after : Action → Work (List Item)
  items_after (Stepped todo) = give todo
  items_after (Ticked todo) = give todo
  items_after _ = ill_formed

  -- a function's result, or F4
  abbrev pub function_result : Option ℕ → Work Value
  function_result x = option_map_or (λ x. bind (place_of g x) (read_at g)) x ill_formed

  -- a call of a function, where go does all that is left
  abbrev pub call_by : (List Item → Work (List Item)) → Calls
  call_by go f gs = bind (enter f gs) (λ b. bind (go (push b.body []))
      (λ rest. bind (function_result b.answer) (λ v. bind leave (λ u. give v))))

  -- what is left once the first item went
  abbrev pub rest_by : (List Item → Work (List Item)) → List Item → Work (List Item)
  rest_by go [] = give []
  rest_by go (i ∷ todo) = bind (item_action (call_by go) i todo) (λ d. bind (items_after d) go)

  -- all that is left, where no more than n steps and calls stand inside one another
  abbrev pub run_items : ℕ → List Item → Work (List Item)
  run_items zero todo = out_of_fuel
  run_items (suc n) todo = bind (settle todo) (rest_by (run_items n))

  -- the action of the first item
  abbrev pub action_by : (List Item → Work (List Item)) → List Item → Work Action
  action_by go [] = give Ended
  action_by go (i ∷ todo) = item_action (call_by go) i todo

  -- one step of a process
  abbrev pub next_action : ℕ → List Item → Work Action
  next_action n todo = bind (settle todo) (action_by (run_items n))

-- None of this belongs to what the program promises: it is for contracts between crates.
-- The productions of programs and declarations, for the contracts of the parsers of names, types, headings,
-- declarations and blocks: under each line of the grammar its symbols and what they make. Names, constants, types and
-- parameters are made as they stand in the syntax tree; declarations and blocks as parts of the plain tree. `d` says
-- inside how many parts a block lies.
use Rattle.std.specs.Prelude.{ℕ, List, [], ◌∷◌, Some, None}
use Rattle.sp_tree.specs.declared.token.Kind.{Kind}
use Rattle.sp_tree.specs.declared.syntax.Name.{Name}
use Rattle.sp_tree.specs.declared.syntax.SynKind.{SynKind}
use Rattle.sp_tree.specs.declared.syntax.SynKind.TheVariants as kinds
use Rattle.sp_tree.specs.declared.syntax.SynFormal.{SynFormal}
use Rattle.sp_tree.specs.declared.syntax.SynGroup.{SynGroup}
use Rattle.sp_tree.specs.declared.syntax.SynPart.{SynPart}
use Rattle.sp_tree.specs.Words as w
use Rattle.sp_tree.specs.PlainSyntax as tree
use Rattle.sp_tree.specs.Grammar.{with_part_first}
use Rattle.sp_tree.specs.Symbols.{AToken, AName, MoreNames, AConstant, AType, MoreFields, AFormal}
use Rattle.sp_tree.specs.Symbols.{MoreFormals, Formals, ABlock, MoreConstants, MoreTypes, MoreVariables}
use Rattle.sp_parse.specs.Productions.{Production, production}
use Rattle.sp_parse.specs.Trees.{and_parts}

-- names = name { "," name }
abbrev pub names : Production (List Name)
names = production (AName ∷ MoreNames ∷ []) (λ (name, (more, _)). name ∷ more)

-- the same up to a ")"
abbrev pub listed_names : Production (List Name)
listed_names = production (AName ∷ MoreNames ∷ AToken w.Close ∷ []) (λ (name, (more, _)). name ∷ more)

-- group = names ":" name
abbrev pub group : Production SynGroup
group = production (AName ∷ MoreNames ∷ AToken w.Colon ∷ AName ∷ [])
    (λ (name, (more, (_, (kind, _)))). record { names = name ∷ more; kind = kind })

-- fields = names ":" name { ";" names ":" name } [ ";" ], up to the `end`
abbrev pub fields : Production (List SynGroup)
fields = production (AName ∷ MoreNames ∷ AToken w.Colon ∷ AName ∷ MoreFields ∷ [])
    (λ (name, (more, (_, (kind, (groups, _))))). record { names = name ∷ more; kind = kind } ∷ groups)

-- type = "array" "[" constant ".." constant "]" "of" name
abbrev pub array_type : Production SynKind
array_type = production
    (AToken w.OpenIndex ∷ AConstant ∷ AToken w.Range ∷ AConstant ∷ AToken w.CloseIndex ∷ AToken w.Of ∷ AName ∷ [])
    (λ (_, (low, (_, (high, (_, (_, (of, _))))))). kinds.Array low high of)

-- type = "*" "(" names ")"
abbrev pub channel_type : Production SynKind
channel_type = production (AToken w.Open ∷ AName ∷ MoreNames ∷ AToken w.Close ∷ [])
    (λ (_, (name, (more, _))). kinds.Channel (name ∷ more))

-- formals = "(" formal { ";" formal } ")", behind the "("
abbrev pub formals : Production (List SynFormal)
formals = production (AFormal ∷ MoreFormals ∷ []) (λ (formal, (more, _)). formal ∷ more)

-- constants = "const" name "=" constant ";" { name "=" constant ";" }, with the declarations before and behind them
abbrev pub constants : List SynPart → ℕ → Production tree.Block
constants before d = production (AName ∷ AToken w.Equal ∷ AConstant ∷ AToken w.Semicolon ∷ MoreConstants d ∷ [])
    (λ (name, (_, (value, (_, (behind, _))))). and_parts before (with_part_first (tree.Const name value) behind))

-- types = "type" name "=" type ";" { name "=" type ";" }, in the same way
abbrev pub types : List SynPart → ℕ → Production tree.Block
types before d = production (AName ∷ AToken w.Equal ∷ AType ∷ AToken w.Semicolon ∷ MoreTypes d ∷ [])
    (λ (name, (_, (kind, (_, (behind, _))))). and_parts before (with_part_first (tree.Kind name kind) behind))

-- variables = "var" names ":" name ";" { names ":" name ";" }, in the same way
abbrev pub variables : List SynPart → ℕ → Production tree.Block
variables before d = production
    (AName ∷ MoreNames ∷ AToken w.Colon ∷ AName ∷ AToken w.Semicolon ∷ MoreVariables d ∷ [])
    (λ (name, (more, (_, (kind, (_, (behind, _)))))). and_parts before
    (with_part_first (tree.Var (name ∷ more) kind) behind))

-- procedure = "procedure" name [ formals ] ";" block ";"
abbrev pub procedure : ℕ → Production tree.Part
procedure d = production (AName ∷ Formals ∷ AToken w.Semicolon ∷ ABlock d ∷ AToken w.Semicolon ∷ [])
    (λ (name, (formals, (_, (block, _)))). tree.Proc name formals None block.parts block.body)

-- function = "function" name [ formals ] ":" name ";" block ";"
abbrev pub function : ℕ → Production tree.Part
function d = production
    (AName ∷ Formals ∷ AToken w.Colon ∷ AName ∷ AToken w.Semicolon ∷ ABlock d ∷ AToken w.Semicolon ∷ [])
    (λ (name, (formals, (_, (answer, (_, (block, _)))))). tree.Proc name formals (Some answer) block.parts block.body)

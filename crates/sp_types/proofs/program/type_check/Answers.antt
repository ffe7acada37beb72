use Rattle.std.proofs.Common.{◌≡◌, ◌∙◌, [], None, map}
use Rattle.sp_tree.specs.Cells.{sizes}
use Rattle.sp_tree.specs.NamedOf as plain
use Rattle.sp_types.specs.AfterTables.{starts_in, tables_by_names}
use Rattle.sp_types.specs.CellCaps.{capped_count, capped_sizes}
use Rattle.sp_types.specs.CheckedTree.{checked_blocks, checked_variables, program_checked}
use Rattle.sp_types.specs.DeclarationFirsts.{blocks_first, cells_first, constants_first, kinds_first}
use Rattle.sp_types.specs.Tables.{constants_from, constants_of, env_of, kinds_from, numbers_from, numbers_of}
use Rattle.sp_types.specs.TypeFirst.{types_first}
use Rattle.sp_types.specs.TypeWalk.{blocks_after, bodies, places_of, starts_of}
use Rattle.sp_types.proofs.CellCaps.{cells_same, sizes_capped}
use Rattle.sp_types.proofs.KeptKinds.{blocks_kinds}
use Rattle.sp_types.proofs.TypePhase.{blocks_same}
use Rattle.sp_types.proofs.program.type_check.Goals as goal

-- From the last call back to the first: none of them lost the walk. Then from the first on: each gave what is said.
pub returns : goal.returns
returns c =
    let p = plain.program_of c.args.named in
    let ks = c.args.named.kinds in
    let xs = c.args.named.variables in
    let bs = map plain.block_of c.args.named.blocks in
    c.outcome.ensures (types_first p) (program_checked p) (λ lost.
    let (k9, same9, kinds_same) = c.kinds_in-kinds.ensures lost in
    let (k8, same8, typed) = c.typed_variables-variables.ensures k9 in
    let (k7, first7, blocks_are) = c.type_blocks-blocks.ensures.tree k8 in
    let after = c.type_blocks-blocks.ensures.after k8 in
    let (k6, same6, bodies_are) = c.bodies-bodies.ensures k7 in
    let (k5, same5, tables_are) = c.tables_of-t.ensures k6 in
    let (k4, same4, cells_are) = c.sizes_of-cells.ensures k5 in
    let (k3, first3, kinds_are) = c.kinds_of-kinds.ensures k4 in
    let (kept, same3, places_are) = c.places_of-places.ensures k3 in
    let (k2, first2) = c.check_constants.ensures kept in
    let (k1, same1, known_are) = c.constants_of-known.ensures k2 in
    let (k0, same0, numbers_are) = c.numbers_of-numbers.ensures k1 in
    let places : c.places_of-places.result ≡ places_of ks =
    places_are ∙ (λ j. places_of (c.items-6.ensures j)) in
    let numbers : c.numbers_of-numbers.result ≡ numbers_of p =
    numbers_are ∙ (λ j. numbers_from [] 0 (c.items.ensures j)) in
    let known : c.constants_of-known.result ≡ constants_of p =
    known_are ∙ (λ j. constants_from ((c.items-2.ensures ∙ numbers) j) [] (c.items-3.ensures j)) in
    let checked = first2
    ∙ (λ j. constants_first ((c.items-4.ensures ∙ known) j) (c.items-5.ensures j) ((same1 ∙ same0) j)) in
    let kinds : c.kinds_of-kinds.result ≡ kinds_from (numbers_of p) (constants_of p) ks = kinds_are
    ∙ (λ j. kinds_from ((c.items-7.ensures ∙ numbers) j) ((c.items-8.ensures ∙ known) j) ks) in
    let bounded = first3 ∙ (λ j. kinds_first ((c.items-8.ensures ∙ known) j) ks ((same3 ∙ checked) j)) in
    let all = sizes (kinds_from (numbers_of p) (constants_of p) ks) in
    let cells : c.sizes_of-cells.result ≡ map capped_count all =
    cells_are ∙ (λ j. capped_sizes ((c.items-9.ensures ∙ kinds) j))
    ∙ sizes_capped (kinds_from (numbers_of p) (constants_of p) ks) in
    let given = kinds_first (constants_of p) ks (constants_first (constants_of p) c.args.named.constants None) in
    let counted : c.check_cells-first.result ≡ cells_first (places_of ks) all given =
    c.check_cells-first.ensures
    ∙ (λ j. cells_first ((c.items-10.ensures ∙ places) j) ((c.items-11.ensures ∙ cells) j) ((same4 ∙ bounded) j))
    ∙ cells_same (places_of ks) all given in
    let tables : c.tables_of-t.result ≡ env_of p =
    tables_are ∙ (λ j. tables_by_names ((c.items-12.ensures ∙ numbers) j) (known j) (kinds j)
    (c.items-13.ensures j) (map plain.block_of (c.items-14.ensures j))) in
    let parts : c.items-19.result.now ≡ bodies bs =
    c.items-19.ensures ∙ bodies_are ∙ (λ j. bodies (map plain.block_of (c.items-15.ensures j))) in
    let first = first7
    ∙ (λ j. blocks_first ((c.items-16.ensures ∙ numbers) j) ((c.items-17.ensures ∙ cells) j) (c.items-18.ensures j)
    0 (tables j) (starts_in (parts j) bs) bs ((same6 ∙ same5 ∙ counted) j))
    ∙ blocks_same (numbers_of p) all xs 0 (env_of p) (starts_of bs) bs (cells_first (places_of ks) all given) in
    let behind : c.type_blocks-blocks.new.t ≡ blocks_after (env_of p) (starts_of bs) bs =
    after ∙ (λ j. blocks_after (tables j) (starts_in (parts j) bs) bs) in
    let ends : c.kinds_in-kinds.result ≡ (env_of p).kinds =
    kinds_same ∙ (λ j. (behind j).kinds) ∙ blocks_kinds (env_of p) (starts_of bs) bs in
    let variables = typed
    ∙ (λ j. checked_variables ((c.items-20.ensures ∙ (λ i. (behind i).variables)) j) xs) in
    let blocks = blocks_are ∙ (λ j. checked_blocks (tables j) (starts_in (parts j) bs) bs) in (
      same9 ∙ same8 ∙ first,
      (λ j. record { kinds = ends j; variables = variables j; blocks = blocks j }),
    ))

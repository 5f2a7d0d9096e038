-- The definition, open to computing: what the examples are checked through. A line for each crate names what it marks `unfoldable`. Assumes nothing.
use mathlib.Core.List.{List}
use Rattle.std.specs.Prelude.{Option}
use Prim.Native.Nat.{ℕ}
use Rattle.value.specs.declared.Val.{Val}
use Rattle.layout.specs.Number.{number_at}
use Rattle.value.specs.Operators.{operands_of, arithmetic, division, bitwise, truth, order, compared, shift, binary_of}
use Rattle.spelling.specs.Spelling.{is, dropped, signed_word, unsigned_word, alone, two, type_of}
use Rattle.files.specs.Blocks.{statement_ok, statements_ok, block_ok, block_at, blocks_in}
use Rattle.files.specs.Call.{call_body_ok, limits_of}
use Rattle.files.specs.FileTable.{body, start_of, body_ok, table_ok}
use Rattle.files.specs.Head.{variable_ok, fixed_ok, head_ok}
use Rattle.files.specs.Items.{reading, read_from, every}
use Rattle.files.specs.Names.{printable, before, name_at, names_in, type_at, types_in}
use Rattle.files.specs.Nodes.{rule_of, used_ok, unused_ok, trees_from, trees, trees_ok, root_ok}
use Rattle.files.specs.Program.{tree_from, tree_at, case_of, listed, blocks_from, program_of}
use Rattle.files.specs.Refusal.{world_ok, call_ok, node_fault, nodes_fault, bodies_fault, routine_fault, files_fault, constant_fault}
use Rattle.files.specs.World.{symbol_of, byte_at, bytes_from, symbol_address, symbol_size, image_bytes}
use Rattle.files.specs.WorldFile.{least_name, symbols_ok, region_at, regions_in}
use Rattle.memory.specs.Overlay.{find, store}
use Rattle.definition.specs.Act.{◌>>=◌, try}
use Rattle.definition.specs.Constant.{constant_run, constant_value, constant_verdict, constant_number}
use Rattle.definition.specs.Evaluate.{read_variable, write_variable, pointer, store_fields, assign_struct, assign_val, assign, take_names, followed, call, address_val, eval_as, look, execute}
use Rattle.definition.specs.Listing.{steps_text, variables_text, text_of, listing_of}
use Rattle.definition.specs.Memory.{gather, load, pokes, store_val}
use Rattle.definition.specs.Numerals.{digits}
use Rattle.definition.specs.Question.{cut}
use Rattle.memory.specs.Entries as entries
use Rattle.definition.specs.Record.{stop_body, counts_body, steps_body, variables_body, questions_body, layout, record_bytes, body_at, questions_in}
use Rattle.definition.specs.Run.{acts, start, ran_of, ran_in, ran, record_of, from_state, verdict, number}
use Rattle.definition.specs.State.{run}
use Rattle.definition.specs.Statements.{returning, outcome, run_statement}
use Rattle.definition.specs.Term.{kid, count, evals}
use Rattle.definition.specs.Walk.{last_address, taking, choosing, terminate, settle, unit, walk, walk_from, walk_all, declared_in, parameters_set, unset_added, follow_at}
use Rattle.definition.specs.World.{world_of}

unfoldable pub layout_open : Unit {0}
unfolding number_at
layout_open = tt

unfoldable pub value_open : Unit {0}
unfolding operands_of arithmetic division bitwise truth order compared shift binary_of is dropped signed_word unsigned_word alone two type_of
value_open = tt

unfoldable pub files_open : Unit {0}
unfolding statement_ok statements_ok block_ok block_at blocks_in call_body_ok limits_of body start_of body_ok table_ok variable_ok fixed_ok head_ok reading read_from every printable before name_at names_in type_at types_in rule_of used_ok unused_ok trees_from trees trees_ok root_ok tree_from tree_at case_of listed blocks_from program_of world_ok call_ok node_fault nodes_fault bodies_fault routine_fault files_fault constant_fault symbol_of byte_at bytes_from symbol_address symbol_size image_bytes least_name symbols_ok region_at regions_in
files_open = tt

unfoldable pub memory_open : Unit {0}
unfolding find store entries.entry
memory_open = tt

unfoldable pub record_computed : (routine world call : List ℕ) → List ℕ
unfolding layout_open value_open files_open memory_open ◌>>=◌ try constant_run constant_value constant_verdict constant_number read_variable write_variable pointer store_fields assign_struct assign_val assign take_names followed call address_val eval_as look execute steps_text variables_text text_of listing_of gather load pokes store_val digits cut stop_body counts_body steps_body variables_body questions_body layout record_bytes body_at questions_in acts start ran_of ran_in ran record_of from_state verdict number run returning outcome run_statement kid count evals last_address taking choosing terminate settle unit walk walk_from walk_all declared_in parameters_set unset_added follow_at world_of
record_computed routine world call = record_of routine world call

unfoldable pub listing_computed : (routine world call : List ℕ) → List ℕ
unfolding record_computed
listing_computed routine world call = listing_of routine world call

unfoldable pub number_computed : (routine world call : List ℕ) (buffer workspace : ℕ) → ℕ
unfolding record_computed
number_computed routine world call buffer workspace = number routine world call buffer workspace

unfoldable pub constant_computed : (routine : List ℕ) (node : ℕ) → Option Val
unfolding record_computed
constant_computed routine node = constant_value routine node

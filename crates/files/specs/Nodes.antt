-- Nodes: 20 bytes each, kind u8, flag u8, ref u16, width u32, span u32, value u64 (document 01, "The files"). Assumes nothing.
use Rattle.std.specs.Prelude.{Bool, true, false, not, ◌&&◌, ◌||◌, cond, List, [], ◌∷◌, ℕ, zero, suc, ◌+◌, ◌-◌, ◌*◌, ◌/◌, ◌%◌, length, get_or, leb, ltb, eqb}
use Rattle.layout.specs.Number.{number_at}
use Rattle.files.specs.Items.{every}

abbrev pub kind_of : List ℕ → ℕ → ℕ
kind_of s n = get_or s (n * 20) 0

abbrev pub flag_of : List ℕ → ℕ → ℕ
flag_of s n = get_or s (n * 20 + 1) 0

abbrev pub ref_of : List ℕ → ℕ → ℕ
ref_of s n = number_at s (n * 20 + 2) 2

abbrev pub width_of : List ℕ → ℕ → ℕ
width_of s n = number_at s (n * 20 + 4) 4

abbrev pub span_of : List ℕ → ℕ → ℕ
span_of s n = number_at s (n * 20 + 8) 4

abbrev pub value_of : List ℕ → ℕ → ℕ
value_of s n = number_at s (n * 20 + 12) 8

-- What a kind lets its fields and its children be: the flag's most; what the ref is (0 nothing, 1 a name, 2 a type, 3 any number); the width's least and most;
-- the value's most; the least and the most children. "Fields not named here are 0": their most is 0.
pub record Rule : Type 0 where
  pub flag : ℕ
  pub ref : ℕ
  pub narrow : ℕ
  pub wide : ℕ
  pub value : ℕ
  pub few : ℕ
  pub many : ℕ

abbrev pub rule : ℕ → ℕ → ℕ → ℕ → ℕ → ℕ → ℕ → Rule
rule f r n w v a m = record { flag = f; ref = r; narrow = n; wide = w; value = v; few = a; many = m }

abbrev any32 : ℕ
any32 = 0xffff_ffff

abbrev any64 : ℕ
any64 = 0xffff_ffff_ffff_ffff

-- "Children are in `AstNode`'s field order: none for 0 to 7 and 19, one for 8 to 10 and 18, three for 11, two for 12 and 13, none or one for 16, any number for
-- 15 and 17", and 14 has "callee, up to 16 arguments"
abbrev pub rules : List Rule
rules =
    -- flag, ref, width from and to, value, children from and to
    rule 0 0 1 8 any64 0 0  -- 0 Constant (width 1 to 8 bytes, value)
    ∷ rule 0 1 0 0 0 0 0  -- 1 Var (ref name)
    ∷ rule 255 3 0 any32 any64 0 0  -- 2 Register (width in bits, flag class, ref index, value position)
    ∷ rule 0 0 0 0 0 0 0  -- 3 StringLiteral
    ∷ rule 0 1 0 0 any64 0 0  -- 4 FunctionName (ref, value address)
    ∷ rule 0 0 0 0 0 0 0  -- 5 ConditionTrue
    ∷ rule 0 0 0 0 0 0 0  -- 6 ConditionFalse
    ∷ rule 1 0 0 0 0 0 0  -- 7 ConstantCondition (flag 0 or 1)
    ∷ rule 0 2 0 0 0 1 1  -- 8 Cast (ref type)
    ∷ rule 0 0 0 0 0 1 1  -- 9 Deref
    ∷ rule 0 0 0 0 0 1 1  -- 10 AddressOf
    ∷ rule 0 0 0 0 0 3 3  -- 11 Ternary
    ∷ rule 17 0 0 0 0 2 2  -- 12 Binary (flag 0 to 17)
    ∷ rule 0 0 0 0 0 2 2  -- 13 Assign
    ∷ rule 0 0 0 0 0 1 17  -- 14 Call (callee, up to 16 arguments)
    ∷ rule 0 1 0 0 0 0 any32  -- 15 Intrinsic (ref), any number
    ∷ rule 0 0 0 0 0 0 1  -- 16 Return, none or one
    ∷ rule 0 0 0 0 0 0 any32  -- 17 StructInit, any number
    ∷ rule 0 2 0 0 any64 1 1  -- 18 its field (ref type, value offset)
    ∷ rule 0 0 0 0 0 0 0  -- 19 a plain statement
    ∷ []

abbrev pub no_rule : Rule
no_rule = rule 0 0 0 0 0 0 0

unfoldable pub rule_of : ℕ → Rule
rule_of k = get_or rules k no_rule

-- what a ref stays below: "a ref to a name or type is below its table's count"
abbrev pub ref_below : ℕ → ℕ → ℕ → ℕ
ref_below r names types = cond (eqb r 0) 1 (cond (eqb r 1) names (cond (eqb r 2) types 65536))

-- ---- what document 01 refuses by 5

-- "a node's kind, or a field its kind bars or must leave 0"
unfoldable pub field_ok : List ℕ → ℕ → ℕ → ℕ → Bool
field_ok b names types n =
    let r = rule_of (kind_of b n) in
    ltb (kind_of b n) 20 && leb (flag_of b n) r.flag && ltb (ref_of b n) (ref_below r.ref names types)
    && leb r.narrow (width_of b n) && leb (width_of b n) r.wide && leb (value_of b n) r.value

-- "5 looks at its whole nodes"
unfoldable pub fields_ok : List ℕ → ℕ → ℕ → Bool
fields_ok b names types = every (length b / 20) (field_ok b names types)

-- ---- and document 02 by 5, 30 and 31: the three together are the same (proofs/FaultLaws: `dealt`, `the_old_five`)

-- 5: "an unknown kind"
abbrev pub kind_known : List ℕ → ℕ → Bool
kind_known b n = ltb (kind_of b n) 20

-- a kind uses a field whose most is not 0. What holds of a field that it uses, and that a field that it does not use is 0
abbrev pub if_used : ℕ → Bool → Bool
if_used most ok = eqb most 0 || ok

abbrev pub zero_if_unused : ℕ → ℕ → Bool
zero_if_unused most x = not (eqb most 0) || eqb x 0

-- 30: "A constant width, flag or reference that the kind bars" (no kind that uses a value bars one)
unfoldable pub used_ok : List ℕ → ℕ → ℕ → ℕ → Bool
used_ok b names types n =
    let r = rule_of (kind_of b n) in
    if_used r.wide (leb r.narrow (width_of b n) && leb (width_of b n) r.wide) && if_used r.flag (leb (flag_of b n) r.flag)
    && if_used r.ref (ltb (ref_of b n) (ref_below r.ref names types))

-- 31: "an unused field that isn't 0"
unfoldable pub unused_ok : List ℕ → ℕ → Bool
unused_ok b n =
    let r = rule_of (kind_of b n) in
    zero_if_unused r.flag (flag_of b n) && zero_if_unused r.ref (ref_of b n) && zero_if_unused r.wide (width_of b n) && zero_if_unused r.value (value_of b n)

-- ---- trees

-- 6: "a field node not directly under 17, or another node there": a field just where its parent is a StructInit
abbrev pub placed_ok : ℕ → ℕ → Bool
placed_ok kind parent = eqb kind 18 && eqb parent 17 || (not (eqb kind 18) && not (eqb parent 17))

-- 6: "span .. depth": a node that a chain has room for, whose span counts itself and ends by node e, and that is placed where it may be
abbrev pub node_ok : List ℕ → ℕ → ℕ → ℕ → ℕ → Bool
node_ok b depth parent n e =
    leb 1 depth && leb 1 (span_of b n) && leb (span_of b n) (e - n) && placed_ok (kind_of b n) parent

-- 6: "child count": the children's number is c - 1, or c is 0 and they are not as they must be
abbrev pub count_ok : ℕ → ℕ → Bool
count_ok k c = leb 1 c && leb (rule_of k).few (c - 1) && leb (c - 1) (rule_of k).many

-- "span counts the node and all under it, children follow their parent": of the trees side by side from node n up to node e, under a parent of a kind and
-- after c others, 1 more than how many there are in all, or 0 if one is refused. `depth` nodes are left for a chain; at most f are read on the way
unfoldable pub trees_from : ℕ → List ℕ → ℕ → ℕ → ℕ → ℕ → ℕ → ℕ
trees_from zero b depth parent n e c = 0
trees_from (suc f) b depth parent n e c =
    elim (leb e n) [
      | true ↦ c + 1
      | false ↦ elim (node_ok b depth parent n e) [
        | true ↦ elim (count_ok (kind_of b n) (trees_from f b (depth - 1) (kind_of b n) (n + 1) (n + span_of b n) 0)) [
          | true ↦ trees_from f b depth parent (n + span_of b n) e (c + 1)
          | false ↦ 0
        ]
        | false ↦ 0
      ]
    ]

-- what stands at the top has no parent: a kind that there is not
abbrev pub top : ℕ
top = 20

-- as many as there can be: f is no limit
unfoldable pub trees : List ℕ → ℕ → ℕ → ℕ → ℕ → ℕ → ℕ
trees b depth parent n e c = trees_from (suc (length b)) b depth parent n e c

-- 6: "a node body whose length is no multiple of 20", or whose trees are not as they must be. "A chain from parent to child has at most 64 nodes"
unfoldable pub trees_ok : List ℕ → Bool
trees_ok b = eqb (length b % 20) 0 && leb 1 (trees b 64 top 0 (length b / 20) 0)

-- 7: "a root that is no node or is a field"
unfoldable pub root_ok : List ℕ → ℕ → Bool
root_ok b r = ltb r (length b / 20) && not (eqb (kind_of b r) 18)

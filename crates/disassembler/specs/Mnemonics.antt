-- The names of registers, as assemblers write them (those of the RISC-V ABI), and the suffixes of mnemonics. The names of operations stand in
-- the instruction table.
use Rattle.std.specs.Prelude.{ℕ, Bool, true, false, List, [], ◌∷◌, codes, slice_get, unwrap_or}

-- x0 to x31
abbrev pub registers : List (List ℕ)
registers =
    codes "zero" ∷ codes "ra" ∷ codes "sp" ∷ codes "gp" ∷ codes "tp" ∷ codes "t0" ∷ codes "t1" ∷ codes "t2" ∷
    codes "s0" ∷ codes "s1" ∷ codes "a0" ∷ codes "a1" ∷ codes "a2" ∷ codes "a3" ∷ codes "a4" ∷ codes "a5" ∷
    codes "a6" ∷ codes "a7" ∷ codes "s2" ∷ codes "s3" ∷ codes "s4" ∷ codes "s5" ∷ codes "s6" ∷ codes "s7" ∷
    codes "s8" ∷ codes "s9" ∷ codes "s10" ∷ codes "s11" ∷ codes "t3" ∷ codes "t4" ∷ codes "t5" ∷ codes "t6" ∷
    []

unfoldable pub register : ℕ → List ℕ
register r = unwrap_or (slice_get registers r) []

-- what the bits aq and rl of an atomic operation, LR or SC add to its name
abbrev pub order : Bool → Bool → List ℕ
order false false = []
order true false = codes ".aq"
order false true = codes ".rl"
order true true = codes ".aqrl"

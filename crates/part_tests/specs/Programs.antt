-- The programs of the examples: their instructions, word by word, and the machines that they begin in.
use Rattle.std.specs.Prelude.{ℕ, ◌*◌, true, List, [], ◌∷◌, length}
use Rattle.words.specs.Bytes.{byte_of}
use Rattle.flat.specs.State.{Setting}
use Rattle.protocol.specs.Machine.{Machine}
use Rattle.protocol.specs.Start.{start}

-- Instructions

abbrev pub tbegin : ℕ
tbegin = 0x0000000b  -- tbegin 0

abbrev pub tcommit : ℕ
tcommit = 0x0000100b  -- tcommit

abbrev pub tabort : ℕ
tabort = 0x0000200b  -- tabort

abbrev pub lui_x5_1 : ℕ
lui_x5_1 = 0x000012b7  -- lui x5, 1

abbrev pub lui_x5_2 : ℕ
lui_x5_2 = 0x000022b7  -- lui x5, 2

abbrev pub lui_x6_3 : ℕ
lui_x6_3 = 0x00003337  -- lui x6, 3

abbrev pub lw_x6_x5 : ℕ
lw_x6_x5 = 0x0002a303  -- lw x6, 0(x5)

abbrev pub sw_x5_x5 : ℕ
sw_x5_x5 = 0x0052a023  -- sw x5, 0(x5)

abbrev pub sw_x10_x5 : ℕ
sw_x10_x5 = 0x00a2a023  -- sw x10, 0(x5)

abbrev pub sw_x11_x5 : ℕ
sw_x11_x5 = 0x00b2a023  -- sw x11, 0(x5)

abbrev pub sw_x5_x6 : ℕ
sw_x5_x6 = 0x00532023  -- sw x5, 0(x6)

abbrev pub sw_x5_x7 : ℕ
sw_x5_x7 = 0x0053a023  -- sw x5, 0(x7)

abbrev pub sw_x5_4_x5 : ℕ
sw_x5_4_x5 = 0x0052a223  -- sw x5, 4(x5)

abbrev pub sw_x5_32_x5 : ℕ
sw_x5_32_x5 = 0x0252a023  -- sw x5, 32(x5)

abbrev pub slli_x6_x10_5 : ℕ
slli_x6_x10_5 = 0x00551313  -- slli x6, x10, 5

abbrev pub add_x6_x5_x6 : ℕ
add_x6_x5_x6 = 0x00628333  -- add x6, x5, x6

abbrev pub xori_x7_x10_1 : ℕ
xori_x7_x10_1 = 0x00154393  -- xori x7, x10, 1

abbrev pub slli_x7_x7_5 : ℕ
slli_x7_x7_5 = 0x00539393  -- slli x7, x7, 5

abbrev pub add_x7_x5_x7 : ℕ
add_x7_x5_x7 = 0x007283b3  -- add x7, x5, x7

abbrev pub amoadd_x7_x5_x5 : ℕ
amoadd_x7_x5_x5 = 0x0052a3af  -- amoadd.w x7, x5, (x5)

abbrev pub li_x17_93 : ℕ
li_x17_93 = 0x05d00893  -- li x17, 93

abbrev pub li_x10_0 : ℕ
li_x10_0 = 0x00000513  -- li x10, 0

abbrev pub ecall : ℕ
ecall = 0x00000073  -- ecall

-- Programs: x5 gets 8192, the address of block 256

abbrev pub load_and_store : List ℕ
load_and_store = lui_x5_2 ∷ lw_x6_x5 ∷ sw_x5_x5 ∷ []

-- each hart stores its number
abbrev pub store_number : List ℕ
store_number = lui_x5_2 ∷ sw_x10_x5 ∷ []

abbrev pub store_and_commit : List ℕ
store_and_commit = tbegin ∷ lui_x5_2 ∷ sw_x5_x5 ∷ tcommit ∷ []

abbrev pub store_and_abort : List ℕ
store_and_abort = tbegin ∷ lui_x5_2 ∷ sw_x5_x5 ∷ tabort ∷ []

abbrev pub store_again_and_abort : List ℕ
store_again_and_abort = tbegin ∷ lui_x5_2 ∷ sw_x5_x5 ∷ sw_x11_x5 ∷ tabort ∷ []

abbrev pub store_and_load : List ℕ
store_and_load = tbegin ∷ lui_x5_2 ∷ sw_x5_x5 ∷ lw_x6_x5 ∷ tcommit ∷ []

abbrev pub load_then_store : List ℕ
load_then_store = lui_x5_2 ∷ lw_x6_x5 ∷ tbegin ∷ lw_x6_x5 ∷ sw_x5_x5 ∷ []

abbrev pub load_store_and_commit : List ℕ
load_store_and_commit = lui_x5_2 ∷ lw_x6_x5 ∷ tbegin ∷ sw_x5_x5 ∷ tcommit ∷ []

abbrev pub store_and_upgrade : List ℕ
store_and_upgrade = lui_x5_2 ∷ lw_x6_x5 ∷ sw_x5_x5 ∷ tbegin ∷ lw_x6_x5 ∷ sw_x5_4_x5 ∷ []

-- stores to block 257, and then to block 256
abbrev pub store_to_both : List ℕ
store_to_both = tbegin ∷ lui_x5_2 ∷ sw_x5_32_x5 ∷ sw_x5_x5 ∷ []

-- hart 0 (x10) stores to block 256 and then to block 257, hart 1 to block 257 and then to block 256
abbrev pub store_crosswise : List ℕ
store_crosswise = tbegin ∷ lui_x5_2 ∷ slli_x6_x10_5 ∷ add_x6_x5_x6 ∷ sw_x5_x6 ∷ xori_x7_x10_1 ∷ slli_x7_x7_5 ∷ add_x7_x5_x7 ∷ sw_x5_x7 ∷ tcommit ∷ []

abbrev pub commit_twice : List ℕ
commit_twice = tbegin ∷ tbegin ∷ lui_x5_2 ∷ sw_x5_x5 ∷ tcommit ∷ tcommit ∷ []

abbrev pub abort_within : List ℕ
abort_within = lui_x5_2 ∷ tbegin ∷ lui_x6_3 ∷ tbegin ∷ sw_x5_x5 ∷ tabort ∷ []

abbrev pub load_and_add : List ℕ
load_and_add = lui_x5_2 ∷ lw_x6_x5 ∷ amoadd_x7_x5_x5 ∷ []

abbrev pub add_twice_and_abort : List ℕ
add_twice_and_abort = tbegin ∷ lui_x5_2 ∷ amoadd_x7_x5_x5 ∷ amoadd_x7_x5_x5 ∷ tabort ∷ []

-- a store to the text
abbrev pub store_to_text : List ℕ
store_to_text = tbegin ∷ lui_x5_1 ∷ sw_x5_x5 ∷ []

abbrev pub exit : List ℕ
exit = li_x17_93 ∷ li_x10_0 ∷ ecall ∷ []

-- Machines

-- the bytes of words, little-endian
abbrev pub bytes_of : List ℕ → List ℕ
bytes_of [] = []
bytes_of (w ∷ ws) = byte_of w 0 ∷ byte_of w 1 ∷ byte_of w 2 ∷ byte_of w 3 ∷ bytes_of ws

-- so many harts, in 65,536 bytes, with these words as text at 4096
abbrev pub with_text : ℕ → List ℕ → Setting
with_text count words = record {
  segments = record { addr = 4096; bytes = bytes_of words; size = 4 * length words; exec = true } ∷ [];
  size = 65536;
  count = count;
}

-- where they begin
abbrev pub machine : ℕ → List ℕ → Machine
machine count text = start (with_text count text) 4096

-- What `help` shows: the words of each command, and what it does.
use Rattle.std.specs.Prelude.{ℕ, List, [], ◌∷◌, codes}
use Rattle.std.specs.List.{concat}

abbrev pub help_text : List ℕ
help_text = concat (
    codes "Words are parted by one space. Numbers are decimal, or hexadecimal behind 0x.\n" ∷
    codes "H is a hart's number from 0, A the address of a word, B that of a word of text, as pcs are, N a number of turns.\n" ∷
    codes "SORT is get, put, done, grant, forward, putack, ack or nack. Each line of messages begins with SORT H A.\n" ∷
    codes "core, evict and deliver show what the step did or sent, done if nothing of these, nothing if it can't be made now.\n" ∷
    codes "refused 1 to 4: no command is spelled so, no such hart, nothing at such an address, no hart runs. Then nothing was done.\n" ∷
    codes "refused 5: the N turns were taken (of step 1000000), or 16 breakpoints are set. refused 6: memory ran out after the turns before.\n" ∷
    codes "step              takes turns until a hart does something, and shows it\n" ∷
    codes "run N             takes turns until no hart runs, or one is at a breakpoint; N at most\n" ∷
    codes "run               the same, 1000000 turns at most\n" ∷
    codes "break B           sets a breakpoint, or clears it\n" ∷
    codes "core H            makes one step of hart H's core\n" ∷
    codes "evict H A         hart H gives up its line of A's block\n" ∷
    codes "deliver SORT H A  the message of this sort from hart H, or to it, about A's block arrives\n" ∷
    codes "regs H            hart H's registers, pc and status\n" ∷
    codes "word A            the word as it is if all transactions abort\n" ∷
    codes "raw A             the word as it stands in place\n" ∷
    codes "view H A          the word as hart H sees it\n" ∷
    codes "line H A          hart H's line of A's block: its state M, E or S, and its marks r (read), w (written) and x (filled after an overflow)\n" ∷
    codes "dir A             the directory's entry of A's block\n" ∷
    codes "dirs              the directory's entries of all blocks in use\n" ∷
    codes "tx H              hart H's transaction\n" ∷
    codes "log A             a word of the undo logs; hart H's begins 4096 * (H + 1) bytes below the end of memory\n" ∷
    codes "dis B             the word of text as an instruction\n" ∷
    codes "messages          the messages in flight, the oldest first; held where their block is busy\n" ∷
    codes "harts             each hart's pc and status, how deep it is in a transaction, and the blocks that it waits for and has reserved\n" ∷
    codes "help              these lines\n" ∷
    codes "quit              ends\n" ∷
    codes "#                 begins a comment\n" ∷ [])

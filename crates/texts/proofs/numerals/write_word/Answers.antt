use Rattle.std.proofs.Common.{◌∙◌, arith}
use Rattle.std.proofs.lemmas.Simd.{put_chunk_whole}
use Rattle.texts.proofs.Digits.{hexadecimal-bytes}
use Rattle.texts.proofs.numerals.write_word.Goals as goal

pub returns : goal.returns
returns c = put_chunk_whole _ _ c.requires ∙ hexadecimal-bytes c.args.n (omega arith)

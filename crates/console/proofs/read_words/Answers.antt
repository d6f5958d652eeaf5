-- `console::read_words` meets its contract: a chunk is a word. Assumes nothing.
use Rattle.std.proofs.Common.{◌≡◌, ◌*◌, ◌∙◌, arith}
use Rattle.std.proofs.lemmas.Grind.{common_steps}
use Rattle.console.specs.Input.{word_at}
use Rattle.console.proofs.Input.{word-chunk}
use Rattle.console.proofs.read_words.Goals as goal

pub loop-i-preserved : goal.loop-i-preserved
loop-i-preserved c =
    let here : c.from_le_bytes.result ≡ word_at c.args.bytes.now (8 * c.loop-i.i) =
    c.from_le_bytes.ensures ∙ rw c.as_chunks.ensures.front (word-chunk c.args.bytes.now _ c.loop-i.i (omega arith)) in
    grind (arith, common_steps)

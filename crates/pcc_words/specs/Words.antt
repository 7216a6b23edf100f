-- The commands of the code as those of the definition.
use Rattle.std.specs.Prelude.{map}
use Rattle.pcc_words.specs.declared.command.Command.{Command}
use Rattle.pcc_words.specs.declared.command.Command.TheVariants.{Compile, Run, Eval, Solve, Gen, Selftest}
use Rattle.pcc_words.specs.declared.command.Command.TheVariants.{Least, Board, ManyFiles, Usage}
use Rattle.pcc_words.specs.Asked as asked

abbrev pub meaning : Command → asked.Command
meaning (Compile name sources) = asked.Compile name.now (map (λ s. s.now) sources.items)
meaning (Run steps image) = asked.Run steps image.now
meaning (Eval turns sources) = asked.Eval turns (map (λ s. s.now) sources.items)
meaning (Solve file) = asked.Solve file.now
meaning (Gen number) = asked.Gen number
meaning (Selftest name number) = asked.Selftest name.now number
meaning (Least file) = asked.Least file.now
meaning (Board sources) = asked.Board (map (λ s. s.now) sources.items)
meaning (ManyFiles count) = asked.ManyFiles count
meaning (Usage text) = asked.Usage

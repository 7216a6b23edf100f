-- The status of each report, and its line on standard error.
use Rattle.std.specs.Prelude.{◌≡◌, ℕ, Bool, true, false, List, [], ◌++◌, codes, decimal, get_or, if◌then◌else◌}
use Rattle.pcc_base.specs.Faults.{number_of, name_of}
use Rattle.pcc_base.specs.Outcome as outcome
use Rattle.pcc_base.specs.declared.fault.Fault.{Fault}
use Rattle.pcc_base.specs.declared.fault.FaultKind.{FaultKind}
use Rattle.pcc_base.specs.declared.fault.FaultKind.TheVariants.{Unsupported}
use Rattle.pcc_base.specs.declared.fault.FaultKind.TheVariants as faults
use Rattle.pcc_base.specs.declared.run.Trap.{Trap}
use Rattle.pcc_base.specs.declared.run.Trap.TheVariants.{Divide, Check}
use Rattle.pcc_base.specs.declared.run.Stop.{Stop}
use Rattle.pcc_base.specs.declared.run.Stop.TheVariants.{Instruction, Access, Flags, Call}
use Rattle.c_lex.specs.Spellings.{keyword_text}
use Rattle.map_text.specs.Words.{address_text}
use Rattle.pcc_words.specs.Asked as commands
use Rattle.pcc_words.specs.Asked.{map_name}
use Rattle.pcc_driver.specs.declared.report.Named.{Named}
use Rattle.pcc_driver.specs.declared.report.Named.TheVariants.{Source, Map, Image, Board}
use Rattle.pcc_driver.specs.declared.report.Report.{Report}
use Rattle.pcc_driver.specs.declared.report.Report.TheVariants.{Compiled, Exited, SourceFault, Usage, TooLong}
use Rattle.pcc_driver.specs.declared.report.Report.TheVariants.{TooManyFiles, TooManyTokens, LargeArrays, LargeFrame}
use Rattle.pcc_driver.specs.declared.report.Report.TheVariants.{LargeBoard}
use Rattle.pcc_driver.specs.declared.report.Report.TheVariants.{ReadFault, InputFault, WriteFault, OutputFault, NoFile}
use Rattle.pcc_driver.specs.declared.report.Report.TheVariants.{NotImage, Trapped, Stopped}
use Rattle.pcc_driver.specs.declared.report.Report.TheVariants.{BudgetSpent, Answered, BadBoard, NoMemory}

abbrev pub status_of : Report → ℕ
status_of Compiled = 0
status_of (Exited status) = 0
status_of Answered = 0
status_of (SourceFault fault) = 1
status_of BadBoard = 1
status_of Usage = 2
status_of (TooLong file) = 3
status_of (TooManyTokens tokens) = 3
status_of (LargeArrays bytes) = 3
status_of (LargeFrame name bytes) = 3
status_of (TooManyFiles count) = 3
status_of (LargeBoard areas pieces) = 3
status_of (ReadFault file) = 4
status_of InputFault = 4
status_of (WriteFault file) = 5
status_of OutputFault = 5
status_of (NoFile file) = 6
status_of NotImage = 7
status_of (Trapped trap) = 8
status_of (Stopped cause address) = 9
status_of (BudgetSpent steps) = 10
status_of NoMemory = 11

-- the status of `run` for the end of its steps, and that of `eval` for the end of its turns
abbrev pub end_status : outcome.End → ℕ
end_status (outcome.Ended status) = 0
end_status (outcome.Trapped trap) = 8
end_status (outcome.Stopped cause address) = 9
end_status outcome.Goes = 10

-- the name of a file in a command
abbrev pub name_in : commands.Command → Named → List ℕ
name_in (commands.Compile name sources) (Source i) = get_or sources i []
name_in (commands.Compile name sources) Map = map_name name
name_in (commands.Compile name sources) Image = name
name_in (commands.Compile name sources) Board = []
name_in (commands.Run steps image) named = image
name_in (commands.Eval turns sources) (Source i) = get_or sources i []
name_in (commands.Eval turns sources) named = []
name_in (commands.Board sources) (Source i) = get_or sources i []
name_in (commands.Board sources) named = []
name_in (commands.Solve file) named = file
name_in (commands.Gen number) named = []
name_in (commands.Selftest name number) (Source i) = codes "gen"
name_in (commands.Selftest name number) Map = map_name name
name_in (commands.Selftest name number) Image = name
name_in (commands.Selftest name number) Board = []
name_in (commands.Least file) named = file
name_in (commands.ManyFiles count) named = []
name_in commands.Usage named = []

abbrev pub trap_text : Trap → List ℕ
trap_text Divide = codes "divide"
trap_text Check = codes "check"

-- the cause of a stop and the address that is printed: that of an access is the access's own
abbrev pub stop_text : Stop → ℕ → List ℕ
stop_text Instruction address = codes "instruction 0x" ++ address_text address
stop_text (Access at) address = codes "access 0x" ++ address_text at
stop_text Flags address = codes "flags 0x" ++ address_text address
stop_text Call address = codes "call 0x" ++ address_text address

-- behind `Unsupported` the keyword's spelling
abbrev pub word_text : FaultKind → List ℕ
word_text (Unsupported keyword) = codes " " ++ keyword_text keyword
word_text kind = []

abbrev pub kind_text : FaultKind → List ℕ
kind_text kind = decimal (number_of kind) ++ codes " " ++ name_of kind ++ word_text kind

abbrev pub fault_text : Fault → List ℕ
fault_text fault = codes ":" ++ decimal fault.at.line ++ codes ":" ++ decimal fault.at.col ++ codes ": "
    ++ kind_text fault.kind

-- the name of a function, and the bytes of its frame
abbrev pub frame_text : List ℕ → ℕ → List ℕ
frame_text name bytes = name ++ (codes " " ++ decimal bytes)

-- how many areas and pieces a board has
abbrev pub sizes_text : ℕ → ℕ → List ℕ
sizes_text areas pieces = decimal areas ++ (codes " " ++ decimal pieces)

-- the line without its newline
abbrev pub report_text : commands.Command → Report → List ℕ
report_text command Compiled = []
report_text command (Exited status) = codes "exit " ++ decimal status
report_text command (SourceFault fault) = name_in command (Source fault.at.file) ++ fault_text fault
report_text command Usage = codes "usage"
report_text command (TooLong file) = codes "limit 24 FileBytes " ++ name_in command file
report_text command (TooManyTokens tokens) = codes "limit 20 Tokens " ++ decimal tokens
report_text command (LargeArrays bytes) = codes "limit 21 Arrays " ++ decimal bytes
report_text command (LargeFrame name bytes) = codes "limit 22 Frame " ++ frame_text name.items bytes
report_text command (TooManyFiles count) = codes "limit 23 Files " ++ decimal count
report_text command (LargeBoard areas pieces) = codes "limit 32 Board " ++ sizes_text areas pieces
report_text command (ReadFault file) = codes "read fault " ++ name_in command file
report_text command InputFault = codes "read fault input"
report_text command (WriteFault file) = codes "write fault " ++ name_in command file
report_text command OutputFault = codes "write fault output"
report_text command (NoFile file) = codes "no file " ++ name_in command file
report_text command NotImage = codes "not an image"
report_text command (Trapped trap) = codes "trap " ++ trap_text trap
report_text command (Stopped cause address) = codes "stopped " ++ stop_text cause address
report_text command (BudgetSpent steps) = codes "budget " ++ decimal steps
report_text command Answered = []
report_text command BadBoard = name_in command Board ++ (codes ": " ++ kind_text faults.BadBoard)
report_text command NoMemory = codes "no memory"

-- a compilation that went well and an answer that is put on the output have no line
abbrev pub is_silent : Report → Bool
is_silent Compiled = true
is_silent Answered = true
is_silent _ = false

-- the words mean no command
abbrev pub is_usage : Report → Bool
is_usage Usage = true
is_usage _ = false

-- the line that is put on standard error
abbrev pub report_line : commands.Command → Report → List ℕ
report_line command report = if is_silent report then [] else report_text command report ++ codes "\n"

-- what is put on standard error: the line, and behind that of a usage fault what helps
abbrev pub IsShownAs : commands.Command → Report → List ℕ → Type 0
IsShownAs command report text =
    (help : List ℕ) × (text ≡ report_line command report ++ (if is_usage report then help else []))

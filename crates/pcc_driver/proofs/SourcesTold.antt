-- What the report of sources without a typed program tells.
use Rattle.std.proofs.Common.{◌≡◌, ℕ, List, Vec, Global, Err, refl}
use Rattle.pcc_outside.specs.Files.{StoreCounts, CountsRead}
use Rattle.pcc_outside.specs.Streams.{SinkCounts}
use Rattle.pcc_outside.specs.declared.file_store.ReadRefusal.{ReadRefusal}
use Rattle.pcc_outside.specs.declared.file_store.ReadRefusal.TheVariants as read
use Rattle.c_front.specs.Answers.{AreRefused}
use Rattle.c_front.specs.declared.refused.Refused.{Refused}
use Rattle.c_front.specs.declared.refused.Refused.TheVariants as refused
use Rattle.pcc_driver.specs.Causes.{FilesCause, StreamsCause}
use Rattle.pcc_driver.specs.Outside.{Files}
use Rattle.pcc_driver.specs.declared.report.Named.{Named}
use Rattle.pcc_driver.specs.declared.report.Named.TheVariants.{Source}
use Rattle.pcc_driver.specs.Programs.{HaveNoProgram, report_of_read, report_of_refused}
use Rattle.pcc_driver.specs.Sources.{AreRead, StopsAt}

-- ---- a source that isn't read

pub unread_files : (why : ReadRefusal) (file : Named) (old new : StoreCounts) → CountsRead old new (Err why)
    → FilesCause (report_of_read why file) old new
unread_files read.Missing file old new counted = counted
unread_files read.TooLong file old new counted = counted
unread_files read.Failed file old new counted = counted
unread_files read.NoMemory file old new counted = counted

pub unread_streams : (why : ReadRefusal) (file : Named) (input : ℕ) (out : SinkCounts)
    → StreamsCause (report_of_read why file) input input out out
unread_streams read.Missing file input out = (refl, refl)
unread_streams read.TooLong file input out = (refl, refl)
unread_streams read.Failed file input out = (refl, refl)
unread_streams read.NoMemory file input out = (refl, refl)

pub unread_told : (files : Files) (sources : List (List ℕ)) (why : ReadRefusal) (i : ℕ) → StopsAt files why sources i
    → HaveNoProgram files sources (report_of_read why (Source i))
unread_told files sources read.Missing i stops = stops
unread_told files sources read.TooLong i stops = stops
unread_told files sources read.Failed i stops = stops
unread_told files sources read.NoMemory i stops = tt

-- ---- texts that are refused

pub refused_files : (r : Refused) (counts : StoreCounts) → FilesCause (report_of_refused r) counts counts
refused_files (refused.Fault fault) counts = refl
refused_files (refused.Tokens n) counts = refl
refused_files (refused.Arrays bytes) counts = refl
refused_files (refused.Frame name bytes) counts = refl
refused_files refused.NoMemory counts = refl

pub refused_streams : (r : Refused) (input : ℕ) (out : SinkCounts)
    → StreamsCause (report_of_refused r) input input out out
refused_streams (refused.Fault fault) input out = (refl, refl)
refused_streams (refused.Tokens n) input out = (refl, refl)
refused_streams (refused.Arrays bytes) input out = (refl, refl)
refused_streams (refused.Frame name bytes) input out = (refl, refl)
refused_streams refused.NoMemory input out = (refl, refl)

pub refused_told : (files : Files) (sources texts : List (List ℕ)) (r : Refused) → AreRead files sources texts
    → AreRefused texts r → HaveNoProgram files sources (report_of_refused r)
refused_told files sources texts (refused.Fault fault) are h = (texts, are, h)
refused_told files sources texts (refused.Tokens n) are h = (h.0, (texts, are, h.1))
refused_told files sources texts (refused.Arrays bytes) are h = (texts, are, h)
refused_told files sources texts (refused.Frame name bytes) are h = (texts, are, h)
refused_told files sources texts refused.NoMemory are h = tt

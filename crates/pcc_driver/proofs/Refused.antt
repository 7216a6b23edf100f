-- Why texts have no program, as the report of it tells.
use Rattle.std.proofs.Common.{◌≡◌, List, ℕ, subst, sym}
use Rattle.c_front.specs.Answers.{AreRefused}
use Rattle.c_front.specs.declared.refused.Refused.{Refused}
use Rattle.c_front.specs.declared.refused.Refused.TheVariants as refusals
use Rattle.pcc_driver.specs.Programs.{TextsRefused, report_of_refused}
use Rattle.pcc_driver.specs.declared.report.Report.{Report}

refused_so : (texts : List (List ℕ)) (refused : Refused) → AreRefused texts refused
    → TextsRefused texts (report_of_refused refused)
refused_so texts (refusals.Fault fault) h = h
refused_so texts (refusals.Tokens n) h = h
refused_so texts (refusals.Arrays bytes) h = h
refused_so texts (refusals.Frame name bytes) h = h
refused_so texts refusals.NoMemory h = tt

pub texts_refused : (texts : List (List ℕ)) (refused : Refused) (report : Report) → report ≡ report_of_refused refused
    → AreRefused texts refused → TextsRefused texts report
texts_refused texts refused report e h =
    subst (λ (r : Report). TextsRefused texts r) (sym e) (refused_so texts refused h)

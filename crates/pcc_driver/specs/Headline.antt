-- What a compilation leaves: an image that does what the sources' program does.
use Rattle.std.specs.Prelude.{◌≡◌, ◌≢◌, ℕ, List, Some}
use Rattle.c_tree.specs.Program.{Program}
use Rattle.pcc_driver.specs.Programs.{HaveTypedProgram}
use Rattle.pcc_program.specs.Small.{AreSmallBeside}
use Rattle.lower_laws.specs.SettledLaws.{NothingLiveFirst}
use Rattle.pcc_program.specs.Products.{IsImageOf}
use Rattle.map_text.specs.Words.{map_text}
use Rattle.map_text.specs.Maps.{Map}
use Rattle.pcc_words.specs.Asked.{map_name}
use Rattle.pcc_driver.specs.Outside.{Files}
use Rattle.pcc_driver.specs.Sources.{AreRead}

-- What stands of the program of some texts: they have a typed program, NAME.map holds the text of the map of the image
-- (and a text is the text of one map at most), NAME holds an image that does what the program does by that map, and no
-- other file has changed. In the graphs that the map and the image are of, no variable is live at a function's first
-- point, and they have at most 20 points, 2 argument words and one frame array for each token of the texts.
pub record Stands (old new : Files) (name : List ℕ) (texts : List (List ℕ)) : Type 0 where
  pub program : Program
  pub map : Map
  pub image : List ℕ
  pub accepted : HaveTypedProgram texts program
  pub map_written : new (map_name name) ≡ Some (map_text map)
  pub image_written : new name ≡ Some image
  pub others : (other : List ℕ) → other ≢ name → other ≢ map_name name → new other ≡ old other
  pub correct : IsImageOf program map image
  pub nothing_first : NothingLiveFirst program correct.belongs.code.program
  pub small : AreSmallBeside texts correct.belongs.code.program

-- what a compilation leaves: that of the texts that the sources held
pub record IsCompiled (old new : Files) (name : List ℕ) (sources : List (List ℕ)) : Type 0 where
  pub texts : List (List ℕ)
  pub sources_read : AreRead old sources texts
  pub stands : Stands old new name texts

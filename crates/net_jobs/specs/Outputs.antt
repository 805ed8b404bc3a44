-- The outputs of a job's files, as far as their shelf tells of them.
use Rattle.std.specs.Prelude.{ℕ, suc, List, [], ◌∷◌, ◌++◌}
use Rattle.frame_join.specs.FrameHistory.{JoinHistory}
use Rattle.scan_job.specs.Shelves.{ReturnedOutput}
use Rattle.scan_job.specs.FileOutputs.{output_of}

-- the outputs of the files of these pages, numbered from k on
abbrev pub page_outputs_from : ℕ → List JoinHistory → List ReturnedOutput
page_outputs_from k [] = []
page_outputs_from k (page ∷ more) = output_of k page.given ∷ page_outputs_from (suc k) more

-- the bytes of each of these pages' files
abbrev pub texts_of : List JoinHistory → List (List ℕ)
texts_of [] = []
texts_of (page ∷ more) = page.given ∷ texts_of more

-- they, one behind the other
abbrev pub files_text : List JoinHistory → List ℕ
files_text [] = []
files_text (page ∷ more) = page.given ++ files_text more

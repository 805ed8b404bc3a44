-- The value of a join, and which histories it stands for.
use Rattle.std.specs.Prelude.{ℕ, ◌+◌, ◌*◌, ◌≤◌, ◌<◌, ◌≡◌, Bool, true, false, Some, None, List, [], ◌∷◌, ◌++◌, length}
use Rattle.std.specs.Prelude.{slice_index, take, drop}
use Rattle.netpbm.specs.NoFile.{HoldsNoFile}
use Rattle.netpbm.specs.FileText.{header_text}
use Rattle.sane_fixed.specs.declared.byte_order.ByteOrder.{ByteOrder}
use Rattle.sane_fixed.specs.declared.params.Params.{Params}
use Rattle.frame_join.specs.declared.join_stage.Stage.{Stage}
use Rattle.frame_join.specs.declared.join_stage.Stage.TheVariants.{Idle, Under, Keeping, Between, Whole, WholeColors}
use Rattle.frame_join.specs.declared.join_stage.Stage.TheVariants.{Failed}
use Rattle.page_picture.specs.Shows.{Frame}
use Rattle.frame_join.specs.AloneFrame.{is_alone, lines_in, AloneParts, row_bytes, most_bytes}
use Rattle.frame_join.specs.KeptFrame.{is_pass}
use Rattle.frame_join.specs.ColorPlanes.{Planes, planes_of, side_by_side}
use Rattle.frame_join.specs.FrameHistory.{JoinHistory, is_accepted, is_full}
use Rattle.frame_join.specs.FrameFile.{header_alone, row_front, rows_front, with_height, frame_height}
use Rattle.frame_join.specs.JoinStages.{fault_in, is_out_of_memory_at, is_under, is_keeping}

-- What a join keeps: how far it is, the parameters of the frame, the header and how much of it has gone, the next byte
-- of the raster, the frame's bytes from that byte's line on, and the colors that ended. It does not keep what has gone.
pub record PixelJoinState : Type 0 where
  pub stage : Stage
  pub params : Params
  pub order : ByteOrder
  pub head : List ℕ
  pub headed : ℕ
  pub row : ℕ
  pub column : ℕ
  pub held : List ℕ
  pub planes : Planes

-- out of memory stands
abbrev pub is_pixel_out_of_memory : PixelJoinState → Bool
is_pixel_out_of_memory v = is_out_of_memory_at v.stage

-- ---- what went out

-- so much of the file of the frame, which is a picture of known height, went out
pub record HasGoneOut (f : Frame) (given : List ℕ) (v : PixelJoinState) : Type 0 where
  pub params : v.params ≡ f.params
  pub order : v.order ≡ f.order
  pub alone : AloneParts f.params
  pub bytes : (i : ℕ) → slice_index f.payload i < 256
  pub head : v.head ≡ header_text (header_alone f.params)
  pub headed : v.headed ≤ length v.head
  pub given_is : given ≡ take v.headed v.head ++ (rows_front f v.row ++ row_front f v.row v.column)
  pub ahead : v.headed < length v.head → v.row + v.column ≡ 0
  pub rows : v.row ≤ lines_in f.params.lines
  pub column : v.column < row_bytes f.params
  pub row_begun : 0 < v.column → v.row < lines_in f.params.lines

-- the frame came so far, and of its lines those that have not gone are held
pub record StreamsRows (f : Frame) (given : List ℕ) (v : PixelJoinState) : Type 0 where
  pub goes : HasGoneOut f given v
  pub most : length f.payload ≤ most_bytes f.params
  pub reach : v.row * f.params.bytes_per_line ≤ length f.payload
  pub held : v.held ≡ drop (v.row * f.params.bytes_per_line) f.payload
  pub line_begun : 0 < v.column → (v.row + 1) * f.params.bytes_per_line ≤ length f.payload
  pub line_may_go : 0 < v.column → is_under v.stage ≡ true → v.row + 1 < lines_in f.params.lines
  pub last_row_waits : is_under v.stage ≡ true → v.row < lines_in f.params.lines

-- ---- frames that are kept

-- the frame is one color, came after those before it, and has all its bytes
pub record IsColor (before : List Frame) (f : Frame) : Type 0 where
  pub accepted : is_accepted before f.params f.order ≡ true
  pub pass : is_pass f.params ≡ true
  pub full : is_full f ≡ true
  pub bytes : (i : ℕ) → slice_index f.payload i < 256

-- the frames are at most three colors, one after another
abbrev pub AreColors : List Frame → Type 0
AreColors [] = Unit {0}
AreColors (a ∷ []) = IsColor [] a
AreColors (a ∷ b ∷ []) = IsColor [] a × IsColor (a ∷ []) b
AreColors (a ∷ b ∷ c ∷ []) = IsColor [] a × IsColor (a ∷ []) b × IsColor (a ∷ b ∷ []) c
AreColors (a ∷ b ∷ c ∷ d ∷ rest) = ⊥

-- nothing went out, and no header is there
pub record IsSilent (given : List ℕ) (v : PixelJoinState) : Type 0 where
  pub given_is : given ≡ []
  pub head : v.head ≡ []
  pub headed : v.headed ≡ 0
  pub row : v.row ≡ 0
  pub column : v.column ≡ 0

-- the frame under way is kept, beside the colors that ended
pub record KeepsFrame (f : Frame) (past : JoinHistory) (v : PixelJoinState) : Type 0 where
  pub accepted : is_accepted past.ended f.params f.order ≡ true
  pub kept : is_alone f.params ≡ false
  pub colors : AreColors past.ended
  pub planes : v.planes ≡ planes_of past.ended
  pub params : v.params ≡ f.params
  pub order : v.order ≡ f.order
  pub held : v.held ≡ f.payload
  pub bytes : (i : ℕ) → slice_index f.payload i < 256
  pub most : length f.payload ≤ most_bytes f.params
  pub silent : IsSilent past.given v

-- one or two frames ended, the last of them of these parameters
abbrev pub IsPartOfColors : List Frame → Params → ByteOrder → Type 0
IsPartOfColors [] params order = ⊥
IsPartOfColors (a ∷ []) params order = (params ≡ a.params) × (order ≡ a.order)
IsPartOfColors (a ∷ b ∷ []) params order = (params ≡ b.params) × (order ≡ b.order)
IsPartOfColors (a ∷ b ∷ c ∷ rest) params order = ⊥

-- colors ended, and further ones are to come
pub record WaitsFor (past : JoinHistory) (v : PixelJoinState) : Type 0 where
  pub part : IsPartOfColors past.ended v.params v.order
  pub colors : AreColors past.ended
  pub planes : v.planes ≡ planes_of past.ended
  pub held : v.held ≡ []
  pub silent : IsSilent past.given v

-- the three colors ended, and so much of their file went out
pub record HasColors (a b c : Frame) (given : List ℕ) (v : PixelJoinState) : Type 0 where
  pub colors : AreColors (a ∷ b ∷ c ∷ [])
  pub planes : v.planes ≡ planes_of (a ∷ b ∷ c ∷ [])
  pub goes : HasGoneOut (side_by_side c (planes_of (a ∷ b ∷ c ∷ []))) given v

-- ---- which histories a value stands for

-- what a value at that stage says of the history; after a fault only that what was given holds no whole text
abbrev pub PixelRepresentsAt : Stage → JoinHistory → PixelJoinState → Type 0
PixelRepresentsAt Idle past v = (past.ended ≡ []) × (past.under ≡ None) × (past.given ≡ [])
PixelRepresentsAt Under past v = (f : Frame) × (past.ended ≡ []) × (past.under ≡ Some f) × StreamsRows f past.given v
PixelRepresentsAt Keeping past v = (f : Frame) × (past.under ≡ Some f) × KeepsFrame f past v
PixelRepresentsAt Between past v = (past.under ≡ None) × WaitsFor past v
PixelRepresentsAt Whole past v = (f : Frame) × (past.ended ≡ f ∷ []) × (past.under ≡ None)
    × (length f.payload ≡ frame_height f * f.params.bytes_per_line) × StreamsRows (with_height f) past.given v
PixelRepresentsAt WholeColors past v = (a : Frame) × (b : Frame) × (c : Frame) × (past.ended ≡ a ∷ b ∷ c ∷ [])
    × (past.under ≡ None) × HasColors a b c past.given v
PixelRepresentsAt (Failed fault) past v = HoldsNoFile past.given

-- the value stands for the history
pub record PixelRepresents (past : JoinHistory) (v : PixelJoinState) : Type 0 where
  pub fault : past.fault ≡ fault_in v.stage
  pub at_stage : PixelRepresentsAt v.stage past v

-- no frame is kept, and less than a line is held, or the last line
pub record IsPixelDrained (v : PixelJoinState) : Type 0 where
  pub through : is_keeping v.stage ≡ false
  pub little : is_under v.stage ≡ true → length v.held ≤ v.params.bytes_per_line

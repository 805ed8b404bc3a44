-- A frame that begins where memory does not run out.
use Rattle.std.proofs.Common.{◌≡◌, ◌≢◌, ◌∙◌, Option, Some, None, Bool, true, false, not, [], refl, sym}
use Rattle.std.specs.Prelude.{if◌then◌else◌}
use Rattle.sane_fixed.specs.declared.byte_order.ByteOrder.{ByteOrder}
use Rattle.sane_fixed.specs.declared.params.Params.{Params}
use Rattle.page_picture.specs.Shows.{Frame}
use Rattle.frame_join.specs.declared.join_stage.JoinFault.{JoinFault}
use Rattle.frame_join.specs.declared.join_stage.JoinFault.TheVariants.{Shape, NoMem}
use Rattle.frame_join.specs.FrameHistory.{JoinHistory, after_begin_at, with_fault, is_joined, is_accepted, after_begin}

by_tests : (joined accepted : Bool) (past grown : JoinHistory) → past.fault ≡ None → grown.fault ≡ None
    → (if joined then past else (if not accepted then with_fault Shape past else (if true then with_fault NoMem past else grown))).fault ≢ Some NoMem
    → (if joined then past else (if not accepted then with_fault Shape past else (if true then with_fault NoMem past else grown)))
    ≡ (if joined then past else (if not accepted then with_fault Shape past else (if false then with_fault NoMem past else grown)))
by_tests true accepted past grown calm also other = refl
by_tests false true past grown calm also other = absurd (other refl)
by_tests false false past grown calm also other = refl

calm : (p : Params) (o : ByteOrder) (starved : Bool) (fault : Option JoinFault) (under : Option Frame) (past : JoinHistory) → past.fault ≡ None → (after_begin_at fault under p o starved past).fault ≢ Some NoMem
    → after_begin_at fault under p o starved past ≡ after_begin_at fault under p o false past
calm p o starved (Some f) under past none other = refl
calm p o starved None (Some frame) past none other = refl
calm p o false None None past none other = refl
calm p o true None None past none other = by_tests (is_joined past.ended) (is_accepted past.ended p o) past (record past { under = Some (record { params = p; order = o; payload = [] }) }) none none other

pub begins_calmly : (p : Params) (o : ByteOrder) (starved : Bool) (past : JoinHistory) → past.fault ≡ None → (after_begin p o starved past).fault ≢ Some NoMem → after_begin p o starved past ≡ after_begin p o false past
unfolding after_begin
begins_calmly p o starved past none other = calm p o starved past.fault past.under past none other

starving : (joined accepted starved : Bool) (past grown : JoinHistory) → past.fault ≡ None → grown.fault ≡ None
    → (if joined then past else (if not accepted then with_fault Shape past else (if starved then with_fault NoMem past else grown))).fault ≡ Some NoMem
    → (if joined then past else (if not accepted then with_fault Shape past else (if starved then with_fault NoMem past else grown))) ≡ with_fault NoMem past
starving true accepted starved past grown calm also e = absurd (let clash : None ≡ Some NoMem = sym calm ∙ e in cc)
starving false false starved past grown calm also e = absurd (let clash : Some Shape ≡ Some NoMem = e in cc)
starving false true true past grown calm also e = refl
starving false true false past grown calm also e = absurd (let clash : None ≡ Some NoMem = sym also ∙ e in cc)

starves : (p : Params) (o : ByteOrder) (starved : Bool) (fault : Option JoinFault) (under : Option Frame) (past : JoinHistory) → past.fault ≡ None → fault ≡ None → (after_begin_at fault under p o starved past).fault ≡ Some NoMem
    → after_begin_at fault under p o starved past ≡ with_fault NoMem past
starves p o starved (Some f) under past none free e = absurd (let clash : Some f ≡ None = free in cc)
starves p o starved None (Some frame) past none free e = absurd (let clash : Some Shape ≡ Some NoMem = e in cc)
starves p o starved None None past none free e = starving (is_joined past.ended) (is_accepted past.ended p o) starved past (record past { under = Some (record { params = p; order = o; payload = [] }) }) none none e

pub begins_starved : (p : Params) (o : ByteOrder) (starved : Bool) (past : JoinHistory) → past.fault ≡ None → (after_begin p o starved past).fault ≡ Some NoMem → after_begin p o starved past ≡ with_fault NoMem past
unfolding after_begin
begins_starved p o starved past none e = starves p o starved past.fault past.under past none none e

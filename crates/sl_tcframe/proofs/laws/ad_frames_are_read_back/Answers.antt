use Rattle.sl_tcframe.proofs.AdFrameLemmas.{ad_frame_cut, ad_frame_back}
use Rattle.sl_tcframe.proofs.laws.ad_frames_are_read_back.Goals as goal

pub returns-clause-whole : goal.returns-clause-whole
returns-clause-whole c = ad_frame_cut

pub returns-clause-read_back : goal.returns-clause-read_back
returns-clause-read_back c = ad_frame_back

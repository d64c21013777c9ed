-- the claim
pub mod Headline
pub mod Report
pub mod Run
-- what the words, the files and the answers are
pub mod Answers
pub mod Commands
pub mod Coordinates
pub mod ErrorTexts
pub mod Limits
pub mod Line
pub mod Options
pub mod ReadNames
pub mod RefusalCauses
pub mod RefusalLines
pub mod Show
pub mod Twists
pub mod Verdicts
-- worked drawings
pub mod WorkedDrawings
-- what serves the code alone
pub mod inside

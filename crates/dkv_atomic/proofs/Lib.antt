pub mod FirstLimits
pub mod AllEntries
pub mod Visible
pub mod Overlaid
pub mod Apart
pub mod OneMutation

pub mod Written
pub mod Trees
pub mod Planning
pub mod Replaying
pub mod Courses
pub mod Recorded
pub mod Numbers

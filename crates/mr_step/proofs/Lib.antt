mod Replies
mod Talking
mod Programs
